-- The radii of a book as the rules see them.
use Rattle.std.specs.Prelude.{ℕ, List}
use Rattle.picking.specs.Trials as trials
use Rattle.picking.specs.declared.radii.Lists.{Lists}
use Rattle.picking.specs.declared.radii.Radii.{Radii}
use Rattle.row.specs.Seen.{seen_row, seen_rows}
use Rattle.rules.specs.Views as view

-- all of them
abbrev pub seen : {P : Type 0} → Radii P → List (view.Row P)
seen r = seen_rows r.settings r.rows.now r.places.now

-- the one at index j
abbrev pub row_at : {P : Type 0} → Radii P → ℕ → view.Row P
row_at r j = trials.row_at r.settings r.rows.now r.places.now j

-- the one that has these lists
abbrev pub listed : {P : Type 0} → Lists P → view.Row P
listed l = seen_row l.settings l.row.now l.part.now
