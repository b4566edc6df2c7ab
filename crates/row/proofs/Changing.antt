-- Attractors and representatives, as the code changes them.
use Rattle.std.proofs.Common.{◌≡◌, ℕ, zero, suc, ◌+◌, ◌<◌, ◌≤◌, Bool, true, false, cond, List, [], ◌∷◌, ◌++◌, length, get_or, take, drop, set, Some, None, sym, refl, ap, ◌∙◌, arith, length-drop}
use Rattle.std.proofs.lemmas.Bool.{eq-eqb}
use Rattle.std.proofs.lemmas.Grind.{common_steps}
use Rattle.std.specs.List.{position, position_or_len, remove}
use Rattle.std.proofs.lemmas.List.{drop-set-add, take_more_set}
use Rattle.std.proofs.lemmas.List.Quantifiers.{position-Some}
use Rattle.std.proofs.lemmas.List.Sums.{fails_before_first}
use Rattle.packed.specs.Lists.{cut}
use Rattle.rules.specs.Words.{change_first, first_of}
use Rattle.rules.specs.declared.place.Place.{Place}
use Rattle.row.specs.Edits.{less_oldest}

-- one more at the end of a list in a part
pub cut_push : {X : Type 0} (a n : ℕ) (xs : List X) (x : X) → a + n < length xs → cut a (n + 1) (set xs (a + n) x) ≡ cut a n xs ++ (x ∷ [])
cut_push a n xs x h =
    let q : n < length (drop a xs) = simp length-drop (omega arith) in
    rw drop-set-add (take_more_set (drop a xs) n x q)

take-set : {X : Type 0} (n i : ℕ) (xs : List X) (x : X) → take n (set xs i x) ≡ set (take n xs) i x
take-set zero i xs x = refl
take-set (suc n) i [] x = refl
take-set (suc n) zero (y ∷ xs) x = refl
take-set (suc n) (suc i) (y ∷ xs) x = ap (λ ys. y ∷ ys) (take-set n i xs x)

-- a write to a list in a part
pub cut-set : {X : Type 0} (a n i : ℕ) (xs : List X) (x : X) → cut a n (set xs (a + i) x) ≡ set (cut a n xs) i x
cut-set a n i xs x = rw drop-set-add (take-set n i (drop a xs) x)

-- the first that passes stands at i
pub record FirstAt {X : Type 0} (test : X → Bool) (xs : List X) (i : ℕ) : Type 0 where
  pub within : i < length xs
  pub passes : (d : X) → test (get_or xs i d) ≡ true
  pub before : (k : ℕ) (d : X) → k < i → test (get_or xs k d) ≡ false

-- none passes
abbrev pub NonePasses : {X : Type 0} → (X → Bool) → List X → Type 0
NonePasses {X} test xs = (k : ℕ) (d : X) → k < length xs → test (get_or xs k d) ≡ false

-- what a search answers
pub found : {X : Type 0} (test : X → Bool) (xs : List X) (i : ℕ) (x : X) → Some i ≡ position test xs → FirstAt test xs i
found test xs i x e = record {
  within = (position-Some test xs i x (sym e)).0;
  passes = λ d. (position-Some test xs i d (sym e)).1;
  before = λ k d. (position-Some test xs i d (sym e)).2 k;
}

pub missing : {X : Type 0} (test : X → Bool) (xs : List X) → None ≡ position test xs → NonePasses test xs
missing test xs e k d h =
    let past : length xs ≤ position_or_len test xs = grind (arith, common_steps) in
    fails_before_first test xs k d (omega arith)

-- past the head
pub behind : {X : Type 0} (test : X → Bool) (x : X) (xs : List X) (i : ℕ) → FirstAt test (x ∷ xs) (suc i) → FirstAt test xs i
behind test x xs i f =
    let h = f.within in
    record { within = omega arith; passes = f.passes; before = λ k d l. f.before (suc k) d (omega arith) }

-- the first that passes becomes z, whatever it was
pub change_set : {X : Type 0} (test : X → Bool) (change : X → X) (z : X) (xs : List X) (i : ℕ) → FirstAt test xs i → ((y : X) → test y ≡ true → change y ≡ z)
    → set xs i z ≡ change_first test change xs
change_set test change z [] i f same = absurd (omega (arith, f.within))
change_set test change z (x ∷ xs) zero f same =
    ap (λ y. y ∷ xs) (sym (same x (f.passes x))) ∙ ap (λ b. cond b (change x ∷ xs) (x ∷ change_first test change xs)) (sym (f.passes x))
change_set test change z (x ∷ xs) (suc i) f same =
    ap (λ ys. x ∷ ys) (change_set test change z xs i (behind test x xs i f) same)
    ∙ ap (λ b. cond b (change x ∷ xs) (x ∷ change_first test change xs)) (sym (f.before 0 x (omega arith)))

-- where none passes, nothing is changed
pub change_none : {X : Type 0} (test : X → Bool) (change : X → X) (xs : List X) → NonePasses test xs → xs ≡ change_first test change xs
change_none test change [] h = refl
change_none test change (x ∷ xs) h =
    ap (λ ys. x ∷ ys) (change_none test change xs (λ k d l. h (suc k) d (omega arith)))
    ∙ ap (λ b. cond b (change x ∷ xs) (x ∷ change_first test change xs)) (sym (h 0 x (omega arith)))

-- k + 1 attractors lose the first
pub trimmed : {P : Type 0} (k : ℕ) (xs : List (Place P)) → length xs ≡ suc k → remove xs 0 ≡ less_oldest k xs
trimmed k xs h = ap (λ b. cond b (drop 1 xs) xs) (sym (eq-eqb (length xs) (suc k) h))

-- the first that passes, by its place
pub first_found : {X : Type 0} (test : X → Bool) (xs : List X) (i : ℕ) (x : X) → FirstAt test xs i → x ≡ get_or xs i x → first_of test xs ≡ Some x
first_found test [] i x f is = absurd (omega (arith, f.within))
first_found test (y ∷ xs) zero x f is = ap (λ b. cond b (Some y) (first_of test xs)) (f.passes y) ∙ ap Some (sym is)
first_found test (y ∷ xs) (suc i) x f is =
    ap (λ b. cond b (Some y) (first_of test xs)) (f.before 0 y (omega arith)) ∙ first_found test xs i x (behind test y xs i f) is

pub first_missing : {X : Type 0} (test : X → Bool) (xs : List X) → NonePasses test xs → first_of test xs ≡ None
first_missing test [] h = refl
first_missing test (y ∷ xs) h =
    ap (λ b. cond b (Some y) (first_of test xs)) (h 0 y (omega arith)) ∙ first_missing test xs (λ k d l. h (suc k) d (omega arith))
