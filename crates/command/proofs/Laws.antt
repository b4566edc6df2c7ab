-- The bytes of a command tell it.
use Rattle.std.proofs.Common.{◌≡◌, ℕ, cond, eqb, List, ◌++◌, length, get_or, drop, sym, refl, ap, ◌∙◌, arith, length-append}
use Rattle.std.proofs.lemmas.List.{append_assoc}
use Rattle.command.specs.declared.Command.{Command}
use Rattle.command.specs.declared.Command.TheVariants.{Settings, Radius, Open, Hull, Joinery, Day, Pick}
use Rattle.command.specs.Bytes.{be32, be64, be32zs}
use Rattle.command.specs.Commands.{bytes_of, size_of, Carried}
use Rattle.command.proofs.Words.{num32, num64, nums, num32_be32, num64_be64, nums_be32zs, drop-be32, length-be32, length-be64, length-be32zs}

-- the command that begins a list
back : List ℕ → Command
back xs =
    cond (eqb (get_or xs 0 0) 0x53) (Settings (record { kind = get_or xs 1 0; k = get_or xs 2 0; f = get_or xs 3 0; limit = get_or xs 4 0; term = get_or xs 5 0; n = num32 (drop 6 xs) }))
    (cond (eqb (get_or xs 0 0) 0x52) (Radius (num32 (drop 1 xs)))
    (cond (eqb (get_or xs 0 0) 0x4F) Open
    (cond (eqb (get_or xs 0 0) 0x48) (Hull (num32 (drop 1 xs)) (nums 8 (drop 5 xs)))
    (cond (eqb (get_or xs 0 0) 0x4A) (Joinery (num32 (drop 1 xs)) (num64 (drop 5 xs)))
    (cond (eqb (get_or xs 0 0) 0x44) (Day (num32 (drop 1 xs)))
    Pick)))))

back_of : (c : Command) (t : List ℕ) → Carried c → back (bytes_of c ++ t) ≡ c
unfolding back
back_of (Settings s) t h = ap (λ n. Settings (record s { n = n })) (num32_be32 s.n t h.5)
back_of (Radius radius) t h = ap Radius (num32_be32 radius t h)
back_of Open t h = refl
back_of (Hull day offsets) t h =
    let e = append_assoc (be32 day) (be32zs offsets) t in
    let a : num32 ((be32 day ++ be32zs offsets) ++ t) ≡ day = ap num32 e ∙ num32_be32 day (be32zs offsets ++ t) h.0 in
    let d : drop 4 ((be32 day ++ be32zs offsets) ++ t) ≡ be32zs offsets ++ t = ap (drop 4) e ∙ drop-be32 day (be32zs offsets ++ t) in
    let b : nums 8 (be32zs offsets ++ t) ≡ offsets = ap (λ n. nums n (be32zs offsets ++ t)) (sym h.1) ∙ nums_be32zs offsets t (λ i l. h.2 i (omega arith)) in
    ap (λ x. Hull x (nums 8 (drop 4 ((be32 day ++ be32zs offsets) ++ t)))) a ∙ ap (Hull day) (ap (nums 8) d ∙ b)
back_of (Joinery day word) t h =
    let e = append_assoc (be32 day) (be64 word) t in
    let a : num32 ((be32 day ++ be64 word) ++ t) ≡ day = ap num32 e ∙ num32_be32 day (be64 word ++ t) h.0 in
    let d : drop 4 ((be32 day ++ be64 word) ++ t) ≡ be64 word ++ t = ap (drop 4) e ∙ drop-be32 day (be64 word ++ t) in
    ap (λ x. Joinery x (num64 (drop 4 ((be32 day ++ be64 word) ++ t)))) a ∙ ap (Joinery day) (ap num64 d ∙ num64_be64 word t h.1)
back_of (Day day) t h = ap Day (num32_be32 day t h)
back_of Pick t h = refl

-- two equal lists that begin with the bytes of a command begin with the same command
pub one_reading : (c d : Command) (t u : List ℕ) → Carried c → Carried d → bytes_of c ++ t ≡ bytes_of d ++ u → c ≡ d
one_reading c d t u f g e = sym (back_of c t f) ∙ ap back e ∙ back_of d u g

pub size_is_length : (c : Command) → Carried c → length (bytes_of c) ≡ size_of c
size_is_length (Settings s) h = let e = length-be32 s.n in omega arith
size_is_length (Radius radius) h = let e = length-be32 radius in omega arith
size_is_length Open h = refl
size_is_length (Hull day offsets) h =
    let e = length-append (be32 day) (be32zs offsets) in
    let f = length-be32 day in
    let g = length-be32zs offsets in
    let l = h.1 in
    omega arith
size_is_length (Joinery day word) h =
    let e = length-append (be32 day) (be64 word) in
    let f = length-be32 day in
    let g = length-be64 word in
    omega arith
size_is_length (Day day) h = let e = length-be32 day in omega arith
size_is_length Pick h = refl
