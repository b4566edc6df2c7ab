-- What the commands that a book took come to, and what its answers promise by that alone.
use Rattle.std.specs.Prelude.{◌≡◌, ℕ, ◌≤◌, ◌⊎◌, List, [], ◌∷◌, length, Some, None, Ok, Err, Option, Result, ◌≢◌}
use Rattle.cover.specs.Distances.{Distance}
use Rattle.label.specs.declared.Label.{Label}
use Rattle.refusal.specs.declared.Refusal.{Refusal}
use Rattle.refusal.specs.declared.Refusal.TheVariants.{ListTooShort, OutOfPlace, ShelfTooShort}
use Rattle.rules.specs.Limits.{needed}
use Rattle.rules.specs.Promises.{Story, next, story, Answered, Refused}
use Rattle.rules.specs.Runs.{Event, Reached, Stage}
use Rattle.rules.specs.Runs as event
use Rattle.rules.specs.Views.{Settings}
use Rattle.term.specs.Formulas.{Rule}
use Rattle.desk.specs.declared.ask.Ask.{Ask}
use Rattle.desk.specs.declared.ask.Ask.TheVariants.{Radius, Open, Post, Turn, Pick, Stray}

-- the story of a book that has just begun
abbrev pub begun_with : {P : Type 0} → Settings → Story P
begun_with s = record { settings = s; radii = 0 ∷ []; places = 0; posts = []; day = 0 }

-- The story after one more command, from what it answered: a refused one changes nothing, and a pick tells nothing new.
abbrev pub heard : {P : Type 0} → ℕ → Result (Option Label) Refusal → Ask P → Story P → Story P
heard places (Err e) a t = t
heard places (Ok l) (Radius g) t = next (event.Radius g (Ok tt)) t
heard places (Ok l) Open t = next (event.Open places) t
heard places (Ok l) (Post p d) t = next (event.Post p d (Ok tt)) t
heard places (Ok l) (Turn d) t = next (event.Turn d (Ok tt)) t
heard places (Ok l) Pick t = t
heard places (Ok l) Stray t = t

-- A run of the book has led to this stage, and what happened in it comes to this story.
pub record Led {P : Type 0} (dist : Distance P) (counts : Rule) (stage : Stage P) (t : Story P) : Type 0 where
  pub events : List (Event P)
  pub run : Reached dist counts events stage
  pub tells : story events ≡ t

-- What the answer of a pick promises: cover, factor and floor where it has a label. Where it has none it was out of
-- place, or refused for cause, and never because a list is too short.
abbrev pub PickKept : {P : Type 0} → Distance P → Rule → Story P → Result (Option Label) Refusal → Type 0
PickKept dist counts t (Ok None) = ⊥
PickKept dist counts t (Ok (Some l)) = Answered dist counts t (Ok l.picked) l.arrivals
PickKept dist counts t (Err e) = (e ≡ OutOfPlace) ⊎ (Refused dist counts t e × (e ≢ ListTooShort))

-- with all the places that the book needs nothing is refused for want of places
abbrev pub RoomKept : {P : Type 0} → Story P → Result (Option Label) Refusal → Type 0
RoomKept t r = needed t.settings (length t.radii) ≤ t.places → r ≢ Err ShelfTooShort

-- what the answer to a command promises, after what the commands before it came to
pub record Kept {P : Type 0} (dist : Distance P) (counts : Rule) (t : Story P) (a : Ask P)
    (r : Result (Option Label) Refusal) : Type 0 where
  pub pick : a ≡ Pick → PickKept dist counts t r
  pub room : RoomKept t r
