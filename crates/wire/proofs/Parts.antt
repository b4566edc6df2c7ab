-- Lists that are filled with the bytes of a command, and parts of a list that are the bytes of a number.
use Rattle.std.proofs.Common.{lit<, ⊎_elim, subst, ◌≡◌, ℕ, suc, ◌+◌, ◌-◌, ◌*◌, ◌^◌, ◌<◌, ◌≤◌, List, [], ◌∷◌, ◌++◌, length, get_or, take, drop, set, ℤ, pos, sym, refl, ap, ◌∙◌, arith, w8, w32, w64, Fits, to_z, of_z, length-drop, length-set}
use borrow.Rule.Slice.PartMut.{put_mid}
use Rattle.std.specs.Int.{from_be_bytes}
use Rattle.std.specs.List.{flat_map}
use Rattle.std.specs.Simd.{first_chunks}
use Rattle.std.proofs.lemmas.Int.{of_z-to_z}
use Rattle.std.proofs.lemmas.Nat.{be_bytes_4, be_bytes_8}
use Rattle.command.proofs.Words.{be32_bytes, be64_bytes}
use Rattle.std.proofs.lemmas.Bool.{cases_lt}
use Rattle.std.proofs.lemmas.Slice.{take-put_mid}
use Rattle.std.proofs.lemmas.List.{append-nil, drop_all, take_more_set, take_all, take-append-drop, drop_more, get_or-take, get_or-drop, get_or_past, length-take, length-take-le}
use Rattle.command.specs.declared.Command.{Command}
use Rattle.command.specs.declared.Command.TheVariants.{Settings, Radius, Open, Hull, Joinery, Day, Pick}
use Rattle.command.specs.declared.verb.Verb.{Verb}
use Rattle.command.specs.Verbs.{letter}
use Rattle.command.specs.Commands.{bytes_of, operands_of, size_of, verb_of}
use Rattle.command.specs.Bytes.{be32, be64, be32z, be32zs}

-- what a part that reaches to the end leaves
to_end : (xs ys : List ℕ) (a : ℕ) → put_mid a (length xs - a) xs ys ≡ take a xs ++ ys
to_end xs ys a =
    ap (λ zs. take a xs ++ (ys ++ zs)) (drop_all (length xs - a) (drop a xs) (omega (arith, length-drop a xs)))
    ∙ ap (λ zs. take a xs ++ zs) (append-nil ys)

-- a list that is filled with one byte
pub filled_none : (out : List ℕ) (b : ℕ) → length out ≡ 1 → set out 0 b ≡ b ∷ []
filled_none out b l = sym (take_all 1 (set out 0 b) (omega (arith, length-set out 0 b))) ∙ take_more_set out 0 b (omega arith)

-- with one byte and then one part
pub filled_one : (out : List ℕ) (b : ℕ) (ys : List ℕ) → 0 < length out → put_mid 1 (length (set out 0 b) - 1) (set out 0 b) ys ≡ b ∷ ys
filled_one out b ys l = to_end (set out 0 b) ys 1 ∙ ap (λ zs. zs ++ ys) (take_more_set out 0 b l)

-- and with one more part
pub filled_two : (out : List ℕ) (b n m : ℕ) (xs ys : List ℕ) → 0 < length out → length xs ≡ n → m ≡ 1 + n
    → put_mid m (length (put_mid 1 n (set out 0 b) xs) - m) (put_mid 1 n (set out 0 b) xs) ys ≡ b ∷ (xs ++ ys)
filled_two out b n m xs ys l e f =
    to_end (put_mid 1 n (set out 0 b) xs) ys m
    ∙ ap (λ zs. zs ++ ys) (take-put_mid 1 n (set out 0 b) xs m (omega arith) (omega (arith, length-set out 0 b))
    ∙ ap (λ zs. zs ++ xs) (take_more_set out 0 b l))

-- each command has a byte
pub some_bytes : (c : Command) → 0 < size_of c
some_bytes (Settings s) = omega arith
some_bytes (Radius radius) = omega arith
some_bytes Open = omega arith
some_bytes (Hull day offsets) = omega arith
some_bytes (Joinery day word) = omega arith
some_bytes (Day day) = omega arith
some_bytes Pick = omega arith

-- a byte and a part that are a command's
pub bytes_are : (c : Command) (v : Verb) (b : ℕ) (ys : List ℕ) → v ≡ verb_of c → b ≡ letter v → ys ≡ operands_of c → b ∷ ys ≡ bytes_of c
bytes_are c v b ys e f g = ap (λ x. x ∷ ys) (f ∙ ap letter e) ∙ ap (λ zs. letter (verb_of c) ∷ zs) g

-- the bytes of each number of a list are those of the list
pub flattened : (zs : List ℤ) (bs : List (List ℕ)) → length bs ≡ length zs
    → ((i : ℕ) → i < length zs → get_or bs i [] ≡ be32z (get_or zs i (pos 0))) → flat_map (λ x. x) bs ≡ be32zs zs
flattened [] [] l h = refl
flattened [] (b ∷ bs) l h = let no : ⊥ = omega arith in absurd no
flattened (z ∷ zs) [] l h = let no : ⊥ = omega arith in absurd no
flattened (z ∷ zs) (b ∷ bs) l h =
    let here : b ≡ be32z z = h 0 (omega arith) in
    let rest = flattened zs bs (omega arith) (λ i k. h (suc i) (omega arith)) in
    ap (λ x. x ++ flat_map (λ y. y) bs) here ∙ ap (λ x. be32z z ++ x) rest

-- each item of a list is a byte
abbrev pub Bytes : List ℕ → Type 0
Bytes xs = (i : ℕ) → Fits w8 (get_or xs i 0)

-- and each of a part
part_fits : (xs : List ℕ) → Bytes xs → (at n i : ℕ) → get_or (take n (drop at xs)) i 0 < 256
part_fits xs f at n i =
    ⊎_elim (λ (l : i < n). rw (get_or-take n (drop at xs) i 0 l, get_or-drop at xs i 0) (f (at + i)).fits)
    (λ (l : n ≤ i). rw (get_or_past (take n (drop at xs)) i 0 (omega (arith, length-take n (drop at xs)))) (lit< tt)) (cases_lt i n)

part_long : (xs : List ℕ) (at n : ℕ) → at + n ≤ length xs → length (take n (drop at xs)) ≡ n
part_long xs at n h = length-take-le n (drop at xs) (omega (arith, length-drop at xs))

-- a number that is read from a part has the bytes that stand there
pub number_read : (xs : List ℕ) (at n : ℕ) → Bytes xs → at + 4 ≤ length xs → n ≡ from_be_bytes w32 (take 4 (drop at xs)) → be32 n ≡ take 4 (drop at xs)
number_read xs at n f h e = sym (be32_bytes n) ∙ be_bytes_4 (take 4 (drop at xs)) n (part_long xs at 4 h) (part_fits xs f at 4) e

pub long_read : (xs : List ℕ) (at n : ℕ) → Bytes xs → at + 8 ≤ length xs → n ≡ from_be_bytes w64 (take 8 (drop at xs)) → be64 n ≡ take 8 (drop at xs)
long_read xs at n f h e = sym (be64_bytes n) ∙ be_bytes_8 (take 8 (drop at xs)) n (part_long xs at 8 h) (part_fits xs f at 8) e

-- numbers that are read from one part after another
pub signed_reads : (xs : List ℕ) (zs : List ℤ) → Bytes xs → length xs ≡ 4 * length zs
    → ((i : ℕ) → i < length zs → get_or zs i (pos 0) ≡ to_z w32 (from_be_bytes w32 (get_or (first_chunks 4 (length zs) xs) i []))) → be32zs zs ≡ xs
signed_reads [] [] f l h = refl
signed_reads (x ∷ xs) [] f l h = let no : ⊥ = omega arith in absurd no
signed_reads xs (z ∷ zs) f l h =
    let n : ℕ = from_be_bytes w32 (take 4 xs) in
    let b = part_fits xs f 0 4 in
    let small : n < 2 ^ 32 = omega (arith, b 0, b 1, b 2, b 3) in
    let here : be32z z ≡ take 4 xs = ap be32 (ap (of_z w32) (h 0 (omega arith)) ∙ of_z-to_z w32 n small) ∙ number_read xs 0 n f (omega arith) refl in
    let rest = signed_reads (drop 4 xs) zs (λ i. subst (λ b. Fits w8 b) (sym (get_or-drop 4 xs i 0)) (f (4 + i)))
    (omega (arith, length-drop 4 xs)) (λ i k. h (suc i) (omega arith)) in
    ap (λ ys. ys ++ be32zs zs) here ∙ ap (λ ys. take 4 xs ++ ys) rest ∙ take-append-drop 4 xs

-- operands of five bytes and a number
pub five_bytes : (xs ys : List ℕ) → length xs ≡ 9 → ys ≡ take 4 (drop 5 xs)
    → get_or xs 0 0 ∷ get_or xs 1 0 ∷ get_or xs 2 0 ∷ get_or xs 3 0 ∷ get_or xs 4 0 ∷ ys ≡ xs
five_bytes xs ys l h = sym (
    drop_more xs 0 0 (omega arith)
    ∙ ap (λ zs. get_or xs 0 0 ∷ zs) (drop_more xs 1 0 (omega arith)
    ∙ ap (λ zs. get_or xs 1 0 ∷ zs) (drop_more xs 2 0 (omega arith)
    ∙ ap (λ zs. get_or xs 2 0 ∷ zs) (drop_more xs 3 0 (omega arith)
    ∙ ap (λ zs. get_or xs 3 0 ∷ zs) (drop_more xs 4 0 (omega arith)
    ∙ ap (λ zs. get_or xs 4 0 ∷ zs) (sym (h ∙ take_all 4 (drop 5 xs) (omega (arith, length-drop 5 xs)))))))))

-- operands of a number and what follows it
pub after_number : (xs ys zs : List ℕ) → ys ≡ take 4 xs → zs ≡ drop 4 xs → ys ++ zs ≡ xs
after_number xs ys zs e f = ap (λ bs. bs ++ zs) e ∙ ap (λ bs. take 4 xs ++ bs) f ∙ take-append-drop 4 xs
