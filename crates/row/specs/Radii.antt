-- A radius with its part of the shelf.
use Rattle.std.specs.Prelude.{◌≡◌}
use Rattle.rules.specs.Views as view
use Rattle.row.specs.Seen.{seen_row}
use Rattle.row.specs.declared.radius.Radius.{Radius}

-- a radius, as the rules see it
abbrev pub seen : {P : Type 0} → Radius P → view.Row P
seen r = seen_row r.settings r.row.now r.part.now

-- b is a after a change: its row and its part are lent from where they were, and its settings and its number stay
pub record Same {P : Type 0} (a b : Radius P) : Type 0 where
  pub row : b.row.ghost_name ≡ a.row.ghost_name
  pub part : b.part.ghost_name ≡ a.part.ghost_name
  pub settings : b.settings ≡ a.settings
  pub radius : b.row.now.radius ≡ a.row.now.radius
