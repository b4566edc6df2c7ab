-- What a pick leaves of its lists.
use Rattle.std.specs.Prelude.{◌≡◌, ℕ, List, length, Result}
use Rattle.refusal.specs.declared.Refusal.{Refusal}
use Rattle.row.specs.Seen.{judged, seen_rows}
use Rattle.row.specs.declared.kept.Row.{Row}
use Rattle.row.specs.declared.settings.Settings.{Settings}
use Rattle.rules.specs.Calls.{Spared, told_by, written_by}
use Rattle.rules.specs.Picking.{Pick}
use Rattle.rules.specs.Views.{View}
use Rattle.rules.specs.declared.picked.Picked.{Picked}
use Rattle.rules.specs.declared.place.Place.{Place}

-- a book as the rules see it, by its settings, its rows, its posts and its day, and the places of its shelf
abbrev pub standing : {P : Type 0} → Settings → List Row → ℕ → ℕ → List (Place P) → View P
standing s rows posts day places = record {
  settings = judged s;
  rows = seen_rows s rows places;
  posts = posts;
  day = day;
  places = length places;
}

-- the answer, the answer list and the work list are those of a pick of the rules
pub record Among {P : Type 0} (p : Result (Pick P) Refusal) (answers work : List ℕ) (r : Result Picked Refusal) (answers2 work2 : List ℕ) : Type 0 where
  pub answer : r ≡ told_by p
  pub written : answers2 ≡ written_by p answers
  pub spared : Spared p work work2
