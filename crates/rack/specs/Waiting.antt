-- A feed as it arrives.
use Rattle.std.specs.Prelude.{◌≡◌, ℕ, ◌-◌, ◌≤◌, List, length, drop}

-- the bytes that have arrived and wait, and the offset in the feed of the first of them
pub record Waiting : Type 0 where
  pub bytes : List ℕ
  pub offset : ℕ

-- what is left once some bytes are taken from the front
abbrev pub EndOf : List ℕ → List ℕ → Type 0
EndOf was left = (length left ≤ length was) × (left ≡ drop (length was - length left) was)
