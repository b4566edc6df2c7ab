-- What a reader of words says.
use Rattle.std.specs.Prelude.{◌≡◌, ℕ, List, Ok, Result}
use Rattle.fault.specs.Faults.{and_then}
use Rattle.script.specs.declared.mistake.Mistake.{Mistake}
use Rattle.script.specs.declared.scan.Words.{Words}

-- what was read is what stands there, and the reader has come to where it ends in the same text
abbrev pub Reads : {X : Type 0} → (List ℕ → ℕ → Result (X × ℕ) Mistake) → Words → Result X Mistake → Words → Type 0
Reads stands before result after =
    (after.text.now ≡ before.text.now) × (and_then result (λ x. Ok (x, after.at)) ≡ stands before.text.now before.at)
