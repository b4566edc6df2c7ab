-- What holds of the rows of every book.
use Rattle.std.specs.Prelude.{ℕ, ◌<◌, ◌≤◌, List, None, slice_index_or}
use Rattle.picking.specs.Trials.{no_row}
use Rattle.row.specs.Seen.{Within}
use Rattle.row.specs.declared.kept.Row.{Row}
use Rattle.row.specs.declared.settings.Settings.{Settings}

-- no list is longer than its part
abbrev pub RowsWithin : Settings → List Row → Type 0
RowsWithin s rows = (j : ℕ) → j < 24 → Within s (slice_index_or rows j no_row)

abbrev pub RadiiBounded : List Row → Type 0
RadiiBounded rows = (j : ℕ) → j < 24 → (slice_index_or rows j no_row).radius ≤ 1000000

-- a row with nothing in it
abbrev pub empty_row : ℕ → Row
empty_row g = record { radius = g; attractors = 0; representatives = 0; entries = 0; lost = None }
