-- The first place that passes, and where the next word begins.
use Rattle.std.proofs.Common.{◌≡◌, ℕ, ◌≤◌, Bool, true, false, not, cond, length, ltb, eqb, drop, List, Some, None, ap, refl, [], ◌∷◌, ◌+◌, arith, rules}
use Rattle.std.proofs.lemmas.List.Sums.{prefix_len-le-length}
use Rattle.std.proofs.lemmas.List.{length-drop}
use Rattle.std.proofs.lemmas.Bool.Decides.{nat_tests}
use Rattle.std.specs.List.{prefix_len, position_or_len}
use Rattle.std.specs.Option.{unwrap_or}
use Rattle.script.specs.Scan.{blank, start_at}

unwrapped : (b : Bool) (n len : ℕ) → n ≤ len → b ≡ ltb n len → unwrap_or (cond b (Some n) None) len ≡ n
unwrapped true n len l e = search rules
unwrapped false n len l e = grind (arith, nat_tests)

-- what `position` gives, or else the length
pub found : {X : Type 0} (p : X → Bool) (xs : List X) → unwrap_or (cond (ltb (position_or_len p xs) (length xs)) (Some (position_or_len p xs)) None) (length xs) ≡ position_or_len p xs
found p xs = unwrapped (ltb (position_or_len p xs) (length xs)) (position_or_len p xs) (length xs) (prefix_len-le-length (λ x. not (p x)) xs) refl

step : (b : Bool) (m n : ℕ) → m ≡ n → cond (not (not b)) (1 + m) 0 ≡ cond b (1 + n) 0
step true m n e = ap (λ k. 1 + k) e
step false m n e = refl

-- what does not fail a failed test passes it
pub twice : {X : Type 0} (p : X → Bool) (xs : List X) → prefix_len (λ x. not (not (p x))) xs ≡ prefix_len p xs
twice p [] = refl
twice p (x ∷ xs) = step (p x) _ _ (twice p xs)

pub start_within : (xs : List ℕ) (at : ℕ) → at ≤ length xs → start_at xs at ≤ length xs
unfolding start_at
start_within xs at h = omega (arith, prefix_len-le-length blank (drop at xs), length-drop at xs)

-- a word is left
pub more : (xs : List ℕ) (at : ℕ) → at ≤ length xs → eqb (start_at xs at) (length xs) ≡ false → ltb (start_at xs at) (length xs) ≡ true
more xs at h e = let l = start_within xs at h in grind (arith, nat_tests)
