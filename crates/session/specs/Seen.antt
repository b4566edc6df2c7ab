-- A session and its shelves as the definitions see them, and what taking an order promises of them.
use Rattle.std.specs.Prelude.{◌≡◌, ℕ, false, List, is_ok, Option, Result}
use Rattle.desk.specs.Accounts.{Kept, Led}
use Rattle.desk.specs.Seen.{Spared, stage_of}
use Rattle.label.specs.declared.Label.{Label}
use Rattle.order.specs.declared.Order.{Order}
use Rattle.refusal.specs.declared.Refusal.{Refusal}
use Rattle.rules.specs.Promises.{Fits, Story}
use Rattle.rules.specs.declared.place.Place.{Place}
use Rattle.tape.specs.declared.hull.Panel.{Panel}
use Rattle.tape.specs.declared.joinery.Part.{Part}
use Rattle.term.specs.declared.span.Span.{Span}
use Rattle.term.specs.declared.span.Span.TheVariants as span
use Rattle.session.specs.Halls.{Hall, Idle, OfPanels, OfParts, Pieces, Days, Window, answer_of, hall_after, hull_dist, joinery_dist, panel_ask, part_ask, rule_of}
use Rattle.session.specs.Talks.{Account}
use Rattle.session.specs.Talks as talk
use Rattle.session.specs.declared.session.Hall as held
use Rattle.session.specs.declared.session.Hall.TheVariants as hall
use Rattle.session.specs.declared.session.Session.{Session}

abbrev pub window_of : Span → Window
window_of (span.Pieces t) = Pieces t.n.number
window_of (span.Days t) = Days t.n.number

-- its desk tells where a session stands
abbrev pub hall_by : held.Hall → List (Place Panel) → List (Place Part) → Hall
hall_by hall.Idle panels parts = Idle
hall_by (hall.OfPanels d) panels parts = OfPanels (window_of d.span) (stage_of d panels)
hall_by (hall.OfParts d) panels parts = OfParts (window_of d.span) (stage_of d parts)

abbrev pub hall_of : Session → List (Place Panel) → List (Place Part) → Hall
hall_of s panels parts = hall_by s.hall panels parts

-- what lies on the shelf fits the parts of its lists
abbrev pub HallFits : Hall → Type 0
HallFits Idle = Unit {0}
HallFits (OfPanels w s) = Fits s
HallFits (OfParts w s) = Fits s

-- The places that no book uses are as they were, and so is the whole shelf of a kind that was not chosen.
abbrev pub UntouchedBy : held.Hall → List (Place Panel) → List (Place Part) → List (Place Panel) → List (Place Part) → Type 0
UntouchedBy hall.Idle panels parts panels2 parts2 = (panels2 ≡ panels) × (parts2 ≡ parts)
UntouchedBy (hall.OfPanels d) panels parts panels2 parts2 = Spared d.stage panels panels2 × (parts2 ≡ parts)
UntouchedBy (hall.OfParts d) panels parts panels2 parts2 = (panels2 ≡ panels) × Spared d.stage parts parts2

abbrev pub Untouched : Session → List (Place Panel) → List (Place Part) → List (Place Panel) → List (Place Part) → Type 0
Untouched s panels parts panels2 parts2 = UntouchedBy s.hall panels parts panels2 parts2

-- A run of the session's book has led here, and comes to this account.
abbrev pub HallLed : Hall → Account → Type 0
HallLed Idle acc = acc ≡ talk.Nothing
HallLed (OfPanels w s) acc = (t : Story Panel) × (acc ≡ talk.OfPanels w t) × Led hull_dist (rule_of w) s t
HallLed (OfParts w s) acc = (t : Story Part) × (acc ≡ talk.OfParts w t) × Led joinery_dist (rule_of w) s t

-- what the answer to an order promises, after such a run
abbrev pub OrderKept : Account → Order → Result (Option Label) Refusal → Type 0
OrderKept talk.Nothing o r = Unit {0}
OrderKept (talk.OfPanels w t) o r = Kept hull_dist (rule_of w) t (panel_ask o) r
OrderKept (talk.OfParts w t) o r = Kept joinery_dist (rule_of w) t (part_ask o) r

-- An order was taken at a session that stood at `was`, on shelves of m and n places.
pub record Moved (o : Order) (r : Result (Option Label) Refusal) (m n : ℕ) (was is : Hall) : Type 0 where
  pub answer : r ≡ answer_of was o
  pub left : HallFits (hall_after m n was o) → is ≡ hall_after m n was o
  pub run : (acc : Account) → HallLed was acc → is ≡ hall_after m n was o
  pub holds : (acc : Account) → HallLed was acc → OrderKept acc o r

-- a refused order leaves the session and both shelves exactly as they were
abbrev pub Unchanged : {X E : Type 0} → Result X E → Session → Session → List (Place Panel) → List (Place Panel) → List (Place Part) → List (Place Part) → Type 0
Unchanged r was is panels panels2 parts parts2 =
    is_ok r ≡ false → (is ≡ was) × (panels2 ≡ panels) × (parts2 ≡ parts)
