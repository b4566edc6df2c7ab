-- A desk and its shelf as the rules see them, and what taking a command promises of them.
use Rattle.std.specs.Prelude.{◌≡◌, false, List, length, is_ok, Option, Result}
use Rattle.book.specs.Seen.{Surplus, seen, setting_up}
use Rattle.cover.specs.Distances.{Distance}
use Rattle.label.specs.declared.Label.{Label}
use Rattle.refusal.specs.declared.Refusal.{Refusal}
use Rattle.rules.specs.Promises.{Fits}
use Rattle.rules.specs.Runs.{Stage, SettingUp, Opened}
use Rattle.rules.specs.declared.place.Place.{Place}
use Rattle.term.specs.Formulas.{Rule}
use Rattle.desk.specs.Asks.{answer_to, stage_after}
use Rattle.desk.specs.declared.ask.Ask.{Ask}
use Rattle.desk.specs.declared.desk.Desk.{Desk}
use Rattle.desk.specs.declared.desk.Stage as held
use Rattle.desk.specs.declared.desk.Stage.TheVariants as stage

abbrev pub stage_in : {P : Type 0} → held.Stage P → List (Place P) → Stage P
stage_in (stage.SettingUp u) places = SettingUp (setting_up u)
stage_in (stage.Open b) places = Opened (seen b places)

abbrev pub stage_of : {P : Type 0} → Desk P → List (Place P) → Stage P
stage_of d places = stage_in d.stage places

-- the places that the book does not use are as they were
abbrev pub Spared : {P : Type 0} → held.Stage P → List (Place P) → List (Place P) → Type 0
Spared (stage.SettingUp u) places places2 = places2 ≡ places
Spared (stage.Open b) places places2 = Surplus b places places2

-- A desk took a command, under a tape and a term of these meanings, on these places. What it leaves is the rules' where
-- that fits the shelf, as it does in every run.
pub record Took {P : Type 0} (dist : Distance P) (counts : Rule) (a : Ask P) (r : Result (Option Label) Refusal)
    (was : Desk P) (places : List (Place P)) (is : Desk P) (places2 : List (Place P)) : Type 0 where
  pub answer : r ≡ answer_to dist counts (stage_of was places) a
  pub left : Fits (stage_after dist counts (length places) (stage_of was places) a)
      → stage_of is places2 ≡ stage_after dist counts (length places) (stage_of was places) a
  pub term : is.span ≡ was.span
  pub refused : is_ok r ≡ false → (is ≡ was) × (places2 ≡ places)
  pub surplus : Spared was.stage places places2
