-- What a session answers to a command, and what the command leaves.
use Rattle.std.specs.Prelude.{ℕ, min, cond, ◌&&◌, List, [], ◌∷◌, Some, None, Ok, Err, Option, Result, ◌==◌, nat_le}
use Rattle.command.specs.declared.Command.{Command}
use Rattle.cover.specs.Distances.{Distance}
use Rattle.desk.specs.Asks.{answer_to, stage_after}
use Rattle.desk.specs.declared.ask.Ask.{Ask}
use Rattle.desk.specs.declared.ask.Ask.TheVariants as ask
use Rattle.fault.specs.Faults.{and_then, located_at}
use Rattle.fault.specs.declared.Fault.{Fault}
use Rattle.label.specs.declared.Label.{Label}
use Rattle.order.specs.Orders.{order_of}
use Rattle.order.specs.declared.Order.{Order}
use Rattle.order.specs.declared.Order.TheVariants.{Settings, Radius, Open, Hull, Joinery, Day, Pick}
use Rattle.refusal.specs.declared.Refusal.{Refusal}
use Rattle.refusal.specs.declared.Refusal.TheVariants.{OutOfPlace, SettingOutOfRange}
use Rattle.rules.specs.Calls.{beginning}
use Rattle.rules.specs.Runs.{Stage, SettingUp}
use Rattle.rules.specs.Views as view
use Rattle.tape.specs.Hull.{widest}
use Rattle.tape.specs.Joinery.{differing}
use Rattle.tape.specs.Limits.{limit}
use Rattle.tape.specs.declared.hull.Panel.{Panel}
use Rattle.tape.specs.declared.joinery.Part.{Part}
use Rattle.term.specs.Formulas.{Rule, by_days, by_number}

-- the distances that the kinds are measured by: the hull tape's and the joinery tape's
abbrev pub hull_dist : Distance Panel
hull_dist a b = min (widest 8 a.offsets b.offsets) limit

abbrev pub joinery_dist : Distance Part
joinery_dist a b = min (differing a.word b.word) 64

-- the term that settings choose: the last n pieces, or the pieces of the last n days
pub data Window : Type 0 where
  Pieces : ℕ → Window
  Days : ℕ → Window

abbrev pub rule_of : Window → Rule
rule_of (Pieces n) = by_number n
rule_of (Days n) = by_days n

-- where a session stands
pub data Hall : Type 0 where
  Idle : Hall
  OfPanels : Window → Stage Panel → Hall
  OfParts : Window → Stage Part → Hall

-- the settings of a command, where they are in range
abbrev pub settings_for : ℕ → ℕ → ℕ → Option view.Settings
settings_for k f fine_limit =
    cond (nat_le 1 k && (nat_le k 12 && (nat_le 2 f && (nat_le f 64 && (nat_le 1 fine_limit && nat_le fine_limit 64)))))
    (Some (record { k = k; f = f; fine_limit = fine_limit })) None

-- term 0 goes by number and term 1 by days, each with n from 1 to 1,000,000
abbrev pub window_for : ℕ → ℕ → Option Window
window_for term n =
    cond (nat_le 1 n && nat_le n 1000000)
    (cond (term == 0) (Some (Pieces n)) (cond (term == 1) (Some (Days n)) None)) None

-- kind 0 is hull panels, kind 1 joinery parts
abbrev pub hall_for : ℕ → Option view.Settings → Option Window → Option Hall
hall_for kind None w = None
hall_for kind (Some s) None = None
hall_for kind (Some s) (Some w) =
    cond (kind == 0) (Some (OfPanels w (SettingUp (beginning s))))
    (cond (kind == 1) (Some (OfParts w (SettingUp (beginning s)))) None)

-- an order as it reaches a book of panels, and one of parts
abbrev pub panel_ask : Order → Ask Panel
panel_ask (Settings s) = ask.Stray
panel_ask (Radius g) = ask.Radius g
panel_ask Open = ask.Open
panel_ask (Hull d p) = ask.Post p d
panel_ask (Joinery d p) = ask.Stray
panel_ask (Day d) = ask.Turn d
panel_ask Pick = ask.Pick

abbrev pub part_ask : Order → Ask Part
part_ask (Settings s) = ask.Stray
part_ask (Radius g) = ask.Radius g
part_ask Open = ask.Open
part_ask (Hull d p) = ask.Stray
part_ask (Joinery d p) = ask.Post p d
part_ask (Day d) = ask.Turn d
part_ask Pick = ask.Pick

-- an order that brings no piece of its kind, as it reaches a book
abbrev pub ask_of : {P : Type 0} → Order → Ask P
ask_of (Settings s) = ask.Stray
ask_of (Radius g) = ask.Radius g
ask_of Open = ask.Open
ask_of (Hull d p) = ask.Stray
ask_of (Joinery d p) = ask.Stray
ask_of (Day d) = ask.Turn d
ask_of Pick = ask.Pick

-- settings are accepted, or out of range
abbrev pub begun_answer : Option Hall → Result (Option Label) Refusal
begun_answer (Some h) = Ok None
begun_answer None = Err SettingOutOfRange

abbrev pub begun_hall : Option Hall → Hall
begun_hall (Some h) = h
begun_hall None = Idle

-- Before settings are accepted all else is out of place.
abbrev pub idle_answer : Order → Result (Option Label) Refusal
idle_answer (Settings s) = begun_answer (hall_for s.kind (settings_for s.k s.f s.limit) (window_for s.term s.n))
idle_answer (Radius g) = Err OutOfPlace
idle_answer Open = Err OutOfPlace
idle_answer (Hull d p) = Err OutOfPlace
idle_answer (Joinery d p) = Err OutOfPlace
idle_answer (Day d) = Err OutOfPlace
idle_answer Pick = Err OutOfPlace

abbrev pub idle_after : Order → Hall
idle_after (Settings s) = begun_hall (hall_for s.kind (settings_for s.k s.f s.limit) (window_for s.term s.n))
idle_after (Radius g) = Idle
idle_after Open = Idle
idle_after (Hull d p) = Idle
idle_after (Joinery d p) = Idle
idle_after (Day d) = Idle
idle_after Pick = Idle

abbrev pub answer_of : Hall → Order → Result (Option Label) Refusal
answer_of Idle o = idle_answer o
answer_of (OfPanels w s) o = answer_to hull_dist (rule_of w) s (panel_ask o)
answer_of (OfParts w s) o = answer_to joinery_dist (rule_of w) s (part_ask o)

-- what an order leaves, on shelves of m places for panels and n for parts
abbrev pub hall_after : ℕ → ℕ → Hall → Order → Hall
hall_after m n Idle o = idle_after o
hall_after m n (OfPanels w s) o = OfPanels w (stage_after hull_dist (rule_of w) m s (panel_ask o))
hall_after m n (OfParts w s) o = OfParts w (stage_after joinery_dist (rule_of w) n s (part_ask o))

-- A command that begins at an offset: first its piece is made, which may be refused; then it is taken.
abbrev pub answer_at : Hall → ℕ → Command → Result (Option Label) Fault
answer_at h at c = and_then (order_of at c) (λ o. located_at at (answer_of h o))

abbrev pub after_order : ℕ → ℕ → Hall → Result Order Fault → Hall
after_order m n h (Ok o) = hall_after m n h o
after_order m n h (Err f) = h

-- the session after a list of commands, newest first, each with its offset
abbrev pub hall_from : ℕ → ℕ → List (ℕ × Command) → Hall
hall_from m n [] = Idle
hall_from m n (c ∷ cs) = after_order m n (hall_from m n cs) (order_of c.0 c.1)
