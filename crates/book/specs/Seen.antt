-- A book as the rules see it.
use Rattle.std.specs.Prelude.{◌≡◌, ◌*◌, List, length, take, drop}
use Rattle.rules.specs.Limits.{part_size}
use Rattle.row.specs.Seen.{judged, seen_rows}
use Rattle.rules.specs.Views as view
use Rattle.rules.specs.declared.place.Place.{Place}
use Rattle.book.specs.declared.open.Book.{Book}
use Rattle.book.specs.declared.setup.Setup.{Setup}

abbrev pub setting_up : {P : Type 0} → Setup P → view.Setup
setting_up u = record { settings = judged u.settings; radii = take u.count u.radii }

-- an open book and the places of its shelf
abbrev pub seen : {P : Type 0} → Book P → List (Place P) → view.View P
seen b places = record {
  settings = judged b.settings;
  rows = seen_rows b.settings (take b.count b.rows) places;
  posts = b.posts;
  day = b.day;
  places = length places;
}

-- the places that the book does not use are as they were
abbrev pub Surplus : {P : Type 0} → Book P → List (Place P) → List (Place P) → Type 0
Surplus b places places2 =
    drop (b.count * part_size (judged b.settings)) places2 ≡ drop (b.count * part_size (judged b.settings)) places
