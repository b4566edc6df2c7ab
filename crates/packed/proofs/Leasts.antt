-- A search for the least arrival.
use Rattle.std.proofs.Common.{ℕ, ◌<◌, ◌≤◌, List, length, get_or}
use Rattle.rules.specs.declared.place.Place.{Place}

-- of the first i places, that at m is the first with the least arrival
abbrev pub LeastSoFar : {P : Type 0} → List (Place P) → ℕ → ℕ → Type 0
LeastSoFar {P} xs m i =
    (m < length xs) × (m ≤ i)
    × ((k : ℕ) (d : Place P) → k < i → (get_or xs m d).arrival ≤ (get_or xs k d).arrival)
    × ((k : ℕ) (d : Place P) → k < m → (get_or xs m d).arrival < (get_or xs k d).arrival)
