-- Lists in a slice.
use Rattle.std.specs.Prelude.{◌≡◌, ℕ, ◌<◌, ◌≤◌, Bool, cond, List, [], ◌∷◌, length, take, drop, slice_index_or}
use Rattle.rules.specs.declared.place.Place.{Place}

-- the list of `len` from `at` on
abbrev pub cut : {X : Type 0} → ℕ → ℕ → List X → List X
cut at len xs = take len (drop at xs)

-- of xs, those that are marked
abbrev pub picked : {X : Type 0} → List Bool → List X → List X
picked bs [] = []
picked [] (x ∷ xs) = []
picked (b ∷ bs) (x ∷ xs) = cond b (x ∷ picked bs xs) (picked bs xs)

-- ys is xs but for the places from `low` on and before `high`
pub record Between {X : Type 0} (low high : ℕ) (xs ys : List X) : Type 0 where
  pub before : take low ys ≡ take low xs
  pub after : drop high ys ≡ drop high xs

-- the place at i has the least arrival, and it is the first with it
pub record LeastAt {P : Type 0} (xs : List (Place P)) (i : ℕ) : Type 0 where
  pub within : i < length xs
  pub least : (k : ℕ) (d : Place P) → k < length xs → (slice_index_or xs i d).arrival ≤ (slice_index_or xs k d).arrival
  pub first : (k : ℕ) (d : Place P) → k < i → (slice_index_or xs i d).arrival < (slice_index_or xs k d).arrival
