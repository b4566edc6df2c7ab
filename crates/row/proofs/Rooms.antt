-- Fine entries in a part: one more, one taken, one gone.
use Rattle.std.proofs.Common.{◌≡◌, ℕ, suc, ◌+◌, ◌<◌, ◌≤◌, Bool, cond, List, [], ◌∷◌, ◌++◌, length, get_or, drop, set, Some, None, Option, sym, refl, ap, ◌∙◌, arith, length-set}
use Rattle.std.specs.List.{remove}
use Rattle.std.proofs.lemmas.List.{get_or_default, get_or-drop, get_or_read, get_or-take}
use Rattle.std.proofs.lemmas.Bool.{eq-eqb, ne_eqb}
use Rattle.term.specs.declared.window.Stamp.{Stamp}
use Rattle.packed.specs.Lists.{LeastAt, cut}
use Rattle.packed.proofs.Betweens.{between_set, cut_above, cut_below}
use Rattle.packed.proofs.Packing.{length_cut}
use Rattle.rules.specs.Steps.{make_room, taken_by}
use Rattle.rules.specs.Views.{Entry}
use Rattle.rules.specs.Words.{change_first, first_of, least}
use Rattle.rules.specs.declared.place.Place.{Place}
use Rattle.row.specs.Seen.{entries}
use Rattle.row.proofs.Changing.{FirstAt, NonePasses, cut_push, cut-set, first_found, first_missing}
use Rattle.row.proofs.Fines.{entries_push, entry-taken, first_entry, latest_at, length-entries, no_entry}
use Rattle.row.proofs.Leasts.{least_at}

-- one more entry, in the lists from a and from b on
pub entries_appended : {P : Type 0} (a b n : ℕ) (xs : List (Place P)) (x : Place P) → a + n < b → b + n < length xs
    → entries (cut a (n + 1) (set (set xs (a + n) x) (b + n) x)) (cut b (n + 1) (set (set xs (a + n) x) (b + n) x))
    ≡ entries (cut a n xs) (cut b n xs) ++ (record { first = x; latest = x } ∷ [])
entries_appended {P} a b n xs x h l =
    let ys : List (Place P) = set xs (a + n) x in
    let zs : List (Place P) = set ys (b + n) x in
    let ly : length ys ≡ length xs = simp length-set refl in
    let firsts : cut a (n + 1) zs ≡ cut a n xs ++ (x ∷ []) =
    cut_below (b + n) (b + n + 1) a (n + 1) ys zs (between_set (b + n) (b + n + 1) (b + n) ys x (omega arith) (omega arith)) (omega arith)
    ∙ cut_push a n xs x (omega arith) in
    let latests : cut b (n + 1) zs ≡ cut b n xs ++ (x ∷ []) =
    cut_push b n ys x (omega arith)
    ∙ ap (λ us. us ++ (x ∷ []))
    (cut_above (a + n) (a + n + 1) b n xs ys (between_set (a + n) (a + n + 1) (a + n) xs x (omega arith) (omega arith)) (omega arith)) in
    let la : length (cut a n xs) ≡ n = length_cut a n xs (omega arith) in
    let lb : length (cut b n xs) ≡ n = length_cut b n xs (omega arith) in
    ap (λ us. entries us (cut b (n + 1) zs)) firsts
    ∙ ap (entries (cut a n xs ++ (x ∷ []))) latests
    ∙ entries_push (cut a n xs) (cut b n xs) x x (omega arith)

-- the first entry that passes takes x
pub entries-taken : {P : Type 0} (test : Place P → Bool) (a b n i : ℕ) (xs : List (Place P)) (x : Place P) → a + n ≤ b → b + n ≤ length xs
    → FirstAt test (cut a n xs) i
    → entries (cut a n (set xs (b + i) x)) (cut b n (set xs (b + i) x)) ≡ change_first (λ e. test e.first) (taken_by x) (entries (cut a n xs) (cut b n xs))
entries-taken {P} test a b n i xs x h l f =
    let zs : List (Place P) = set xs (b + i) x in
    let la : length (cut a n xs) ≡ n = length_cut a n xs (omega arith) in
    let low = f.within in
    let firsts : cut a n zs ≡ cut a n xs =
    cut_below (b + i) (b + i + 1) a n xs zs (between_set (b + i) (b + i + 1) (b + i) xs x (omega arith) (omega arith)) (omega arith) in
    let latests : cut b n zs ≡ set (cut b n xs) i x = cut-set b n i xs x in
    let lb : length (cut b n xs) ≡ n = length_cut b n xs (omega arith) in
    ap (λ us. entries us (cut b n zs)) firsts
    ∙ ap (entries (cut a n xs)) latests
    ∙ entry-taken test x (cut a n xs) (cut b n xs) i (omega arith) f

-- an element of a list in a part
pub get_or-cut : {X : Type 0} (a n i : ℕ) (xs : List X) (d : X) → i < n → get_or (cut a n xs) i d ≡ get_or xs (a + i) d
get_or-cut a n i xs d h = get_or-take n (drop a xs) i d h ∙ get_or-drop a xs i d

-- the entry with the least latest arrival goes where the limit is reached
pub room_made : {P : Type 0} (limit : ℕ) (xs ys : List (Place P)) (i : ℕ) (lost : Option Stamp) (u : Place P)
    → length xs ≡ length ys → length ys ≡ limit → LeastAt ys i → u ≡ get_or ys i u
    → make_room limit (entries xs ys) lost ≡ (remove (entries xs ys) i, Some (record { arrival = u.arrival; day = u.day }))
room_made limit [] [] i lost u h l is here = absurd (omega (arith, is.within))
room_made limit [] (y ∷ ys) i lost u h l is here = absurd (omega arith)
room_made limit (x ∷ xs) [] i lost u h l is here = absurd (omega arith)
room_made {P} limit (x ∷ xs) (y ∷ ys) i lost u h l is here =
    let e : Entry P = record { first = x; latest = y } in
    let es : List (Entry P) = entries xs ys in
    let n : Entry P → ℕ = λ f. f.latest.arrival in
    let len : length es ≡ length ys = length-entries xs ys (omega arith) in
    let at : (j : ℕ) → (get_or (e ∷ es) j e).latest ≡ get_or (y ∷ ys) j y = λ j. latest_at (x ∷ xs) (y ∷ ys) j e h in
    let inside = is.within in
    let low : (j : ℕ) → j < suc (length es) → n (get_or (e ∷ es) i e) ≤ n (get_or (e ∷ es) j e) =
    λ j q. let a = ap (λ p. p.arrival) (at i) in let b = ap (λ p. p.arrival) (at j) in let c = is.least j y (omega arith) in omega arith in
    let first : (j : ℕ) → j < i → n (get_or (e ∷ es) i e) < n (get_or (e ∷ es) j e) =
    λ j q. let a = ap (λ p. p.arrival) (at i) in let b = ap (λ p. p.arrival) (at j) in let c = is.first j y q in omega arith in
    let gone : least n e es ≡ (get_or (e ∷ es) i e, remove (e ∷ es) i) = least_at n e e es i (omega arith) low first in
    let marked : (get_or (e ∷ es) i e).latest ≡ u = at i ∙ sym (get_or_read (y ∷ ys) i u inside here y) in
    ap (λ b. cond {A = List (Entry P) × Option Stamp} b
    ((least n e es).1, Some (record { arrival = (least n e es).0.latest.arrival; day = (least n e es).0.latest.day }))
    (e ∷ es, lost))
    (eq-eqb (suc (length es)) limit (omega arith))
    ∙ ap (λ p. (p.1, Some (record { arrival = p.0.latest.arrival; day = p.0.latest.day }))) gone
    ∙ ap (λ p. (remove (e ∷ es) i, Some (record { arrival = p.arrival; day = p.day }))) marked

-- where it is not, nothing goes
pub room_there : {P : Type 0} (limit : ℕ) (es : List (Entry P)) (lost : Option Stamp) → length es < limit → make_room limit es lost ≡ (es, lost)
room_there limit [] lost h = refl
room_there {P} limit (e ∷ es) lost h =
    ap (λ b. cond {A = List (Entry P) × Option Stamp} b
    ((least (λ f. f.latest.arrival) e es).1, Some (record { arrival = (least (λ f. f.latest.arrival) e es).0.latest.arrival; day = (least (λ f. f.latest.arrival) e es).0.latest.day }))
    (e ∷ es, lost))
    (ne_eqb (suc (length es)) limit (omega arith))

-- the first entry that passes, by its first piece
pub entry_found : {P : Type 0} (test : Place P → Bool) (a b n i : ℕ) (xs : List (Place P)) (x : Place P) → a + n ≤ b → b + n ≤ length xs
    → FirstAt test (cut a n xs) i
    → (e : Entry P) × (first_of (λ f. test f.first) (entries (cut a n xs) (cut b n xs)) ≡ Some e)
entry_found {P} test a b n i xs x h l f =
    let la : length (cut a n xs) ≡ n = length_cut a n xs (omega arith) in
    let lb : length (cut b n xs) ≡ n = length_cut b n xs (omega arith) in
    let es : List (Entry P) = entries (cut a n xs) (cut b n xs) in
    let at = first_entry test (cut a n xs) (cut b n xs) i (omega arith) f in
    let d : Entry P = record { first = x; latest = x } in
    let e : Entry P = get_or es i d in
    (e, first_found (λ u. test u.first) es i e at (get_or_default es i d e at.within))

pub entry_missing : {P : Type 0} (test : Place P → Bool) (a b n : ℕ) (xs : List (Place P)) → a + n ≤ b → b + n ≤ length xs
    → NonePasses test (cut a n xs)
    → first_of (λ f. test f.first) (entries (cut a n xs) (cut b n xs)) ≡ None
entry_missing {P} test a b n xs h l none =
    let la : length (cut a n xs) ≡ n = length_cut a n xs (omega arith) in
    let lb : length (cut b n xs) ≡ n = length_cut b n xs (omega arith) in
    first_missing (λ f. test f.first) (entries (cut a n xs) (cut b n xs)) (no_entry test (cut a n xs) (cut b n xs) (omega arith) none)
