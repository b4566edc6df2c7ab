-- Why a call is refused: the first of its tests that is true.
use Rattle.std.proofs.Common.{◌≡◌, ℕ, Bool, true, false, ◌⊎◌, List, [], ◌∷◌, Some, None, Option, Result, inl, inr, arith}
use Rattle.std.specs.List.{AllByRecursion as Every}
use Rattle.std.proofs.lemmas.Bool.{cases_Bool}
use Rattle.refusal.specs.declared.Refusal.{Refusal}
use Rattle.rules.specs.Promises.{why}
use Rattle.rules.specs.Words.{Any, first_reason, after, ok_or}

-- a refusal is one whose test is true
pub reason_tested : (rs : List (Bool × Refusal)) (e : Refusal) → first_reason rs ≡ Some e
    → Any (λ r. (r.0 ≡ true) × (r.1 ≡ e)) rs
reason_tested [] e h = let z : ◌≡◌ {A = ℕ} 0 1 = cc in absurd (omega arith)
reason_tested (r ∷ rs) e h =
    elim (cases_Bool r.0) [
      | inl t ↦ let k : Some r.1 ≡ Some e = rw t at h in let same : r.1 ≡ e = cc in inl (t, same)
      | inr t ↦ inr (reason_tested rs e (rw t at h))
    ]

-- where there is no reason, every test is false
pub no_reason : (rs : List (Bool × Refusal)) → first_reason rs ≡ None → Every (λ r. r.0 ≡ false) rs
no_reason [] h = tt
no_reason (r ∷ rs) h =
    elim (cases_Bool r.0) [
      | inl t ↦ let k : Some r.1 ≡ None = rw t at h in let z : ◌≡◌ {A = ℕ} 0 1 = cc in absurd (omega arith)
      | inr t ↦ (t, no_reason rs (rw t at h))
    ]

-- a refused answer has its reason, or is what comes after
pub why-after : {X : Type 0} (w : Option Refusal) (r : Result X Refusal) (e : Refusal) → why (after w r) ≡ Some e
    → (w ≡ Some e) ⊎ (why r ≡ Some e)
why-after None r e h = inr h
why-after (Some d) r e h = inl h

-- a refusal for want of a value is that one
pub why-ok_or : {X : Type 0} (d : Refusal) (o : Option X) (e : Refusal) → why (ok_or d o) ≡ Some e → d ≡ e
why-ok_or d None e h = cc
why-ok_or d (Some x) e h = let z : ◌≡◌ {A = ℕ} 0 1 = cc in absurd (omega arith)
