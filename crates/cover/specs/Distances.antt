-- Distances between pieces of any kind, and lists of pieces that lie near one another or far apart.
use Rattle.std.specs.Prelude.{◌≡◌, ℕ, ◌+◌, ◌≤◌, ◌⊎◌, List, [], ◌∷◌}
use Rattle.std.specs.List.{AllByRecursion as Every}
use Rattle.tape.specs.Limits.{limit}

-- a distance between pieces
abbrev pub Distance : Type 0 → Type 0
Distance P = P → P → ℕ

-- the laws of a distance: those of every tape
pub record Metric {P : Type 0} (dist : Distance P) : Type 0 where
  pub range : (x y : P) → dist x y ≤ limit
  pub zero : (x : P) → dist x x ≡ 0
  pub symmetric : (x y : P) → dist x y ≡ dist y x
  pub triangle : (x y z : P) → dist x z ≤ dist x y + dist y z

-- x is within r of one of the list
abbrev pub Near : {P : Type 0} → Distance P → ℕ → List P → P → Type 0
Near dist r [] x = ⊥
Near dist r (c ∷ cs) x = (dist c x ≤ r) ⊎ Near dist r cs x

-- each of xs is within r of one of the choice
abbrev pub Covers : {P : Type 0} → Distance P → ℕ → List P → List P → Type 0
Covers dist r choice xs = Every (Near dist r choice) xs

-- each two of the list are at least e apart
abbrev pub Spaced : {P : Type 0} → Distance P → ℕ → List P → Type 0
Spaced dist e [] = Unit {0}
Spaced dist e (x ∷ xs) = Every (λ y. e ≤ dist x y) xs × Spaced dist e xs
