-- The trial over the radii, and what its answer stands for.
use Rattle.std.specs.Prelude.{ℕ, zero, suc, ◌*◌, Bool, cond, List, [], ◌∷◌, ◌++◌, Some, None, Option, slice_index_or}
use Rattle.packed.specs.Lists.{cut}
use Rattle.row.specs.Seen.{judged, seen_row}
use Rattle.row.specs.declared.kept.Row.{Row}
use Rattle.row.specs.declared.settings.Settings.{Settings}
use Rattle.rules.specs.Limits.{part_size}
use Rattle.rules.specs.Picking.{Taken, passes}
use Rattle.cover.specs.Distances.{Distance}
use Rattle.rules.specs.Views as view
use Rattle.rules.specs.declared.place.Place.{Place}

-- the index of the first that passes a test, where the list begins at index n
abbrev pub index_from : {X : Type 0} → (X → Bool) → ℕ → List X → Option ℕ
index_from test n [] = None
index_from test n (x ∷ xs) = cond (test x) (Some n) (index_from test (suc n) xs)

-- the index of the first radius that passes
abbrev pub first_passing : {P : Type 0} → Distance P → ℕ → List (view.Row P) → Option ℕ
first_passing dist k rows = index_from (passes dist k) 0 rows

-- of xs, those at some indices
abbrev pub gathered : {X : Type 0} → List ℕ → List X → List X
gathered [] xs = []
gathered (i ∷ is) xs = cut i 1 xs ++ gathered is xs

-- what is read where there is no row
abbrev pub no_row : Row
no_row = record { radius = 0; attractors = 0; representatives = 0; entries = 0; lost = None }

-- the radius before the one at index j
abbrev pub floor_at : List Row → ℕ → Option ℕ
floor_at rows zero = None
floor_at rows (suc j) = Some (slice_index_or rows j no_row).radius

-- the row at index j, as seen with its part of the shelf
abbrev pub row_at : {P : Type 0} → Settings → List Row → List (Place P) → ℕ → view.Row P
row_at s rows places j =
    seen_row s (slice_index_or rows j no_row) (cut (j * part_size (judged s)) (part_size (judged s)) places)

-- what a pick takes, by the index of its radius: the row as seen with its part of the shelf, and the floor
abbrev pub taken_at : {P : Type 0} → Settings → List Row → List (Place P) → Option ℕ → Option (Taken P)
taken_at s rows places None = None
taken_at s rows places (Some j) = Some (record {
  row = row_at s rows places j;
  floor = floor_at rows j;
})
