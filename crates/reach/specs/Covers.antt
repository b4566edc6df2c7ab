-- What a radius covers.
use Rattle.std.specs.Prelude.{◌≡◌, ℕ, ◌≤◌, true, List}
use Rattle.std.specs.List.{AllByRecursion as Every}
use Rattle.term.specs.Formulas.{Rule}
use Rattle.term.specs.declared.window.Clock.{Clock}
use Rattle.reach.specs.declared.Posted.{Posted}

-- every posted piece that counts at the clock lies within r, where `far` is a piece's distance from the board
abbrev pub Covers : {P : Type 0} → (P → ℕ) → Rule → Clock → ℕ → List (Posted P) → Type 0
Covers far counts clock r posted =
    Every (λ x. counts x.stamp.arrival x.stamp.day clock.posts clock.day ≡ true → far x.piece ≤ r) posted
