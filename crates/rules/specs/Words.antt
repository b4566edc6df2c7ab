-- Words on lists, options and answers that the rules are written in.
use Rattle.std.specs.Prelude.{ℕ, Bool, true, false, cond, ◌⊎◌, List, [], ◌∷◌, Some, None, Ok, Err, Option, Result, nat_le}
use Rattle.refusal.specs.declared.Refusal.{Refusal}

-- one of the list is such
abbrev pub Any : {X : Type 0} → (X → Type 0) → List X → Type 0
Any C [] = ⊥
Any C (x ∷ xs) = C x ⊎ Any C xs

-- the first that passes a test
abbrev pub first_of : {X : Type 0} → (X → Bool) → List X → Option X
first_of test [] = None
first_of test (x ∷ xs) = cond (test x) (Some x) (first_of test xs)

-- the list with the first that passes a test changed, at the same position
abbrev pub change_first : {X : Type 0} → (X → Bool) → (X → X) → List X → List X
change_first test change [] = []
change_first test change (x ∷ xs) = cond (test x) (change x ∷ xs) (x ∷ change_first test change xs)

-- of x and a list, the first with the least number, and the others in their order
abbrev pub least : {X : Type 0} → (X → ℕ) → X → List X → X × List X
least {X} n x [] = (x, [])
least {X} n x (y ∷ ys) =
    cond {A = X × List X} (nat_le (n x) (n (least n y ys).0)) (x, y ∷ ys) ((least n y ys).0, x ∷ (least n y ys).1)

abbrev pub is_empty : {X : Type 0} → List X → Bool
is_empty [] = true
is_empty (x ∷ xs) = false

-- the last of a list, after d
abbrev pub last_of : ℕ → List ℕ → ℕ
last_of d [] = d
last_of d (x ∷ xs) = last_of x xs

-- the first refusal whose test is true: a call's refusals, in the order in which they are tested
abbrev pub first_reason : List (Bool × Refusal) → Option Refusal
first_reason [] = None
first_reason (r ∷ rs) = cond r.0 (Some r.1) (first_reason rs)

-- what a call answers: the refusal where there is one, else r
abbrev pub after : {X : Type 0} → Option Refusal → Result X Refusal → Result X Refusal
after None r = r
after (Some e) r = Err e

-- what a call leaves: the new where it is performed, the old where it is refused
abbrev pub leaves : {X : Type 0} → Option Refusal → X → X → X
leaves None old new = new
leaves (Some e) old new = old

-- the value, or the refusal for want of one
abbrev pub ok_or : {X : Type 0} → Refusal → Option X → Result X Refusal
ok_or e None = Err e
ok_or e (Some x) = Ok x
