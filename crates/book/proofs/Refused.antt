-- What holds of a call that is not refused.
use Rattle.std.proofs.Common.{◌≡◌, Bool, true, false, cond, not, ◌&&◌, Some, None, Option, Ok, Err, Result, sym, refl, ap}
use Rattle.std.proofs.lemmas.Bool.{true≢false}
use Rattle.refusal.specs.declared.Refusal.{Refusal}
use Rattle.rules.specs.Words.{after}

abbrev is_some : Option Refusal → Bool
is_some None = false
is_some (Some e) = true

-- its first test is false, and none of the others refuses it
pub unrefused : (b : Bool) (x : Refusal) (others : Option Refusal) → cond b (Some x) others ≡ None → (b ≡ false) × (others ≡ None)
unrefused true x others e = absurd (true≢false (ap is_some e))
unrefused false x others e = (refl, e)

pub second_of : (a b : Bool) → not (a && b) ≡ false → b ≡ true
second_of true true e = refl
second_of true false e = absurd (true≢false e)
second_of false b e = absurd (true≢false e)

-- what a call was refused for
abbrev pub refusal_of : Result (Unit {0}) Refusal → Option Refusal
refusal_of (Ok u) = None
refusal_of (Err e) = Some e

pub why_from : (o : Option Refusal) (r : Result (Unit {0}) Refusal) → r ≡ after o (Ok tt) → o ≡ refusal_of r
why_from None r q = sym (ap refusal_of q)
why_from (Some e) r q = sym (ap refusal_of q)
