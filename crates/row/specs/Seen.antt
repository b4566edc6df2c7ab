-- What a row and its part of the shelf hold, as the rules see it.
use Rattle.std.specs.Prelude.{ℕ, ◌+◌, ◌*◌, ◌≤◌, List, [], ◌∷◌, take, drop}
use Rattle.packed.specs.Lists.{cut}
use Rattle.rules.specs.Limits.{attractor_room, representative_room, part_size}
use Rattle.rules.specs.Views as view
use Rattle.rules.specs.Views.{Entry}
use Rattle.rules.specs.declared.place.Place.{Place}
use Rattle.row.specs.declared.kept.Row.{Row}
use Rattle.row.specs.declared.settings.Settings.{Settings}

abbrev pub judged : Settings → view.Settings
judged s = record { k = s.k; f = s.fineness; fine_limit = s.limit }

-- where the first pieces of the fine entries begin in a part, and the latest pieces
abbrev pub firsts_at : Settings → ℕ
firsts_at s = 3 * s.k + 3

abbrev pub latests_at : Settings → ℕ
latests_at s = 3 * s.k + 3 + s.limit

-- fine entries from a list of first pieces and one of latest pieces
abbrev pub entries : {P : Type 0} → List (Place P) → List (Place P) → List (Entry P)
entries [] ys = []
entries (x ∷ xs) [] = []
entries (x ∷ xs) (y ∷ ys) = record { first = x; latest = y } ∷ entries xs ys

-- a row and its part of the shelf
abbrev pub seen_row : {P : Type 0} → Settings → Row → List (Place P) → view.Row P
seen_row s row part = record {
  radius = row.radius;
  attractors = cut 0 row.attractors part;
  representatives = cut (attractor_room s.k) row.representatives part;
  fine = entries (cut (firsts_at s) row.entries part) (cut (latests_at s) row.entries part);
  lost = row.lost;
}

-- rows and their parts, one after another
abbrev pub seen_rows : {P : Type 0} → Settings → List Row → List (Place P) → List (view.Row P)
seen_rows s [] places = []
seen_rows s (row ∷ rows) places =
    seen_row s row (take (part_size (judged s)) places) ∷ seen_rows s rows (drop (part_size (judged s)) places)

-- the lists of a row are within their parts
abbrev pub Within : Settings → Row → Type 0
Within s row =
    (row.attractors ≤ attractor_room s.k) × (row.representatives ≤ representative_room s.k) × (row.entries ≤ s.limit)
