-- What the commands that a session took come to, and what every answer promises by that alone.
use Rattle.std.specs.Prelude.{◌≡◌, ℕ, cond, List, [], ◌∷◌, Some, None, Ok, Err, Option, Result, ◌==◌}
use Rattle.command.specs.declared.Command.{Command}
use Rattle.command.specs.declared.Command.TheVariants.{Settings, Radius, Open, Hull, Joinery, Day, Pick}
use Rattle.cover.specs.Distances.{Distance}
use Rattle.desk.specs.Accounts.{PickKept, RoomKept, begun_with, heard}
use Rattle.desk.specs.declared.ask.Ask.{Ask}
use Rattle.desk.specs.declared.ask.Ask.TheVariants as ask
use Rattle.fault.specs.declared.Fault.{Fault}
use Rattle.label.specs.declared.Label.{Label}
use Rattle.refusal.specs.declared.Refusal.{Refusal}
use Rattle.rules.specs.Promises.{Story}
use Rattle.rules.specs.Views as view
use Rattle.tape.specs.declared.hull.Panel.{Panel}
use Rattle.tape.specs.declared.joinery.Part.{Part}
use Rattle.term.specs.Formulas.{Rule}
use Rattle.session.specs.Halls.{Window, answer_at, hall_from, hull_dist, joinery_dist, rule_of, settings_for, window_for}

-- The account of a session: the term that its settings chose, and the story of its book.
pub data Account : Type 0 where
  Nothing : Account
  OfPanels : Window → Story Panel → Account
  OfParts : Window → Story Part → Account

-- the account that accepted settings begin
abbrev pub account_for : ℕ → Option view.Settings → Option Window → Account
account_for kind None w = Nothing
account_for kind (Some s) None = Nothing
account_for kind (Some s) (Some w) =
    cond (kind == 0) (OfPanels w (begun_with s)) (cond (kind == 1) (OfParts w (begun_with s)) Nothing)

-- what a command says to a book of panels, and to one of parts
abbrev pub to_panels : Command → Ask Panel
to_panels (Settings s) = ask.Stray
to_panels (Radius g) = ask.Radius g
to_panels Open = ask.Open
to_panels (Hull d offsets) = ask.Post (record { offsets = offsets }) d
to_panels (Joinery d word) = ask.Stray
to_panels (Day d) = ask.Turn d
to_panels Pick = ask.Pick

abbrev pub to_parts : Command → Ask Part
to_parts (Settings s) = ask.Stray
to_parts (Radius g) = ask.Radius g
to_parts Open = ask.Open
to_parts (Hull d offsets) = ask.Stray
to_parts (Joinery d word) = ask.Post (record { word = word }) d
to_parts (Day d) = ask.Turn d
to_parts Pick = ask.Pick

-- an answer by its refusal alone
abbrev pub unlocated : {X : Type 0} → Result X Fault → Result X Refusal
unlocated (Ok x) = Ok x
unlocated (Err f) = Err f.refusal

abbrev pub begun_by : Result (Option Label) Refusal → Command → Account
begun_by (Err e) c = Nothing
begun_by (Ok l) (Settings s) = account_for s.kind (settings_for s.k s.f s.limit) (window_for s.term s.n)
begun_by (Ok l) (Radius g) = Nothing
begun_by (Ok l) Open = Nothing
begun_by (Ok l) (Hull d offsets) = Nothing
begun_by (Ok l) (Joinery d word) = Nothing
begun_by (Ok l) (Day d) = Nothing
begun_by (Ok l) Pick = Nothing

-- The account after one more command, from what it answered: a refused one changes nothing.
abbrev pub noted : ℕ → ℕ → Result (Option Label) Refusal → Command → Account → Account
noted m n r c Nothing = begun_by r c
noted m n r c (OfPanels w t) = OfPanels w (heard m r (to_panels c) t)
noted m n r c (OfParts w t) = OfParts w (heard n r (to_parts c) t)

-- a talk: commands with what they answered, newest first
abbrev pub account_of : ℕ → ℕ → List (Command × Result (Option Label) Fault) → Account
account_of m n [] = Nothing
account_of m n (x ∷ xs) = noted m n (unlocated x.1) x.0 (account_of m n xs)

-- the talk that a list of commands leads to
abbrev pub talk_of : ℕ → ℕ → List (ℕ × Command) → List (Command × Result (Option Label) Fault)
talk_of m n [] = []
talk_of m n (c ∷ cs) = (c.1, answer_at (hall_from m n cs) c.0 c.1) ∷ talk_of m n cs

-- What the answer to a command promises to a book of one kind.
pub record Told {P : Type 0} (dist : Distance P) (counts : Rule) (t : Story P) (c : Command)
    (r : Result (Option Label) Refusal) : Type 0 where
  pub pick : c ≡ Pick → PickKept dist counts t r
  pub room : RoomKept t r

-- Every answer keeps its promise, by the account of the commands before it.
abbrev pub Promised : Account → Command → Result (Option Label) Refusal → Type 0
Promised Nothing c r = Unit {0}
Promised (OfPanels w t) c r = Told hull_dist (rule_of w) t c r
Promised (OfParts w t) c r = Told joinery_dist (rule_of w) t c r
