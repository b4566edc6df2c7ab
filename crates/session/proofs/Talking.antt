-- Every list of commands leads a session along a run of its book, so that every answer keeps its promise.
use Rattle.std.proofs.Common.{◌≡◌, ℕ, Bool, true, false, cond, eqb, List, [], ◌∷◌, ℤ, Some, None, Ok, Err, Option, Result, sym, refl, ap, ◌∙◌, subst, arith}
use Rattle.std.proofs.lemmas.Bool.Decides.{nat_tests}
use Rattle.command.specs.declared.Command.{Command}
use Rattle.command.specs.declared.Command.TheVariants as command
use Rattle.command.specs.declared.RawSettings.{RawSettings}
use Rattle.desk.proofs.Leading.{begin_led, led_on}
use Rattle.desk.specs.Accounts.{Led, begun_with, heard}
use Rattle.desk.specs.Asks.{answer_to}
use Rattle.fault.specs.Faults.{and_then, located_at}
use Rattle.fault.specs.declared.Fault.{Fault}
use Rattle.label.specs.declared.Label.{Label}
use Rattle.order.specs.Orders.{in_range, order_of}
use Rattle.order.specs.declared.Order.{Order}
use Rattle.order.specs.declared.Order.TheVariants as order
use Rattle.refusal.specs.declared.Refusal.{Refusal}
use Rattle.refusal.specs.declared.Refusal.TheVariants.{PieceOutOfRange}
use Rattle.rules.specs.Limits.{Judged}
use Rattle.rules.specs.Promises.{Story}
use Rattle.rules.specs.Calls.{beginning}
use Rattle.rules.specs.Runs.{Stage}
use Rattle.rules.specs.Runs as event
use Rattle.rules.specs.Views as view
use Rattle.tape.specs.declared.hull.Panel.{Panel}
use Rattle.tape.specs.declared.joinery.Part.{Part}
use Rattle.session.specs.Halls.{Hall, Idle, OfPanels, OfParts, Window, after_order, answer_of, begun_answer, begun_hall, hall_for, hall_from, hull_dist, joinery_dist, panel_ask, part_ask, rule_of, settings_for, window_for}
use Rattle.session.specs.Seen.{HallLed, OrderKept}
use Rattle.session.specs.Talks.{Account, Promised, Told, account_for, account_of, begun_by, noted, talk_of, to_panels, to_parts, unlocated}
use Rattle.session.specs.Talks as talk

ok_same : {X E : Type 0} (x y : X) → ◌≡◌ {A = Result X E} (Ok x) (Ok y) → x ≡ y
ok_same x y e = cc

-- the order of a panel, by whether its offsets are in range
abbrev hull_order : ℕ → ℕ → Panel → Bool → Result Order Fault
hull_order at d p b = and_then (located_at at (cond b (Ok p) (Err PieceOutOfRange))) (λ panel. Ok (order.Hull d panel))

hull_made : (at d : ℕ) (p : Panel) (b : Bool) (o : Order) → hull_order at d p b ≡ Ok o → order.Hull d p ≡ o
hull_made at d p true o e = ok_same (order.Hull d p) o e
hull_made at d p false o e = cc

-- what a command's order says to a book is what the command says
panels_said : (at : ℕ) (c : Command) (o : Order) → order_of at c ≡ Ok o → to_panels c ≡ panel_ask o
panels_said at (command.Settings s) o e = ap panel_ask (ok_same (order.Settings s) o e)
panels_said at (command.Radius g) o e = ap panel_ask (ok_same (order.Radius g) o e)
panels_said at command.Open o e = ap panel_ask (ok_same order.Open o e)
panels_said at (command.Hull d offsets) o e =
    ap panel_ask (hull_made at d (record { offsets = offsets }) (in_range 8 offsets) o e)
panels_said at (command.Joinery d word) o e = ap panel_ask (ok_same (order.Joinery d (record { word = word })) o e)
panels_said at (command.Day d) o e = ap panel_ask (ok_same (order.Day d) o e)
panels_said at command.Pick o e = ap panel_ask (ok_same order.Pick o e)

parts_said : (at : ℕ) (c : Command) (o : Order) → order_of at c ≡ Ok o → to_parts c ≡ part_ask o
parts_said at (command.Settings s) o e = ap part_ask (ok_same (order.Settings s) o e)
parts_said at (command.Radius g) o e = ap part_ask (ok_same (order.Radius g) o e)
parts_said at command.Open o e = ap part_ask (ok_same order.Open o e)
parts_said at (command.Hull d offsets) o e =
    ap part_ask (hull_made at d (record { offsets = offsets }) (in_range 8 offsets) o e)
parts_said at (command.Joinery d word) o e = ap part_ask (ok_same (order.Joinery d (record { word = word })) o e)
parts_said at (command.Day d) o e = ap part_ask (ok_same (order.Day d) o e)
parts_said at command.Pick o e = ap part_ask (ok_same order.Pick o e)

pub unlocated_located : {X : Type 0} (at : ℕ) (r : Result X Refusal) → unlocated (located_at at r) ≡ r
unlocated_located at (Ok x) = refl
unlocated_located at (Err e) = refl

-- settings that are accepted are judged
settings-judged : (k f fine_limit : ℕ) (s : view.Settings) → settings_for k f fine_limit ≡ Some s → Judged s
settings-judged k f fine_limit s e = grind (arith, nat_tests)

-- an account is begun where the settings were accepted
abbrev begun_if : Result (Option Label) Refusal → Account → Account
begun_if (Ok l) acc = acc
begun_if (Err e) acc = talk.Nothing

begun_if_lem : (r : Result (Option Label) Refusal) (s : RawSettings)
    → begun_by r (command.Settings s) ≡ begun_if r (account_for s.kind (settings_for s.k s.f s.limit) (window_for s.term s.n))
begun_if_lem (Ok l) s = refl
begun_if_lem (Err e) s = refl

kind_led : (hull joinery : Bool) (s : view.Settings) (w : Window) → Judged s
    → HallLed (begun_hall (cond hull (Some (OfPanels w (event.SettingUp (beginning s)))) (cond joinery (Some (OfParts w (event.SettingUp (beginning s)))) None)))
    (begun_if (begun_answer (cond hull (Some (OfPanels w (event.SettingUp (beginning s)))) (cond joinery (Some (OfParts w (event.SettingUp (beginning s)))) None)))
    (cond hull (talk.OfPanels w (begun_with s)) (cond joinery (talk.OfParts w (begun_with s)) talk.Nothing)))
kind_led true joinery s w judged = (begun_with s, refl, begin_led hull_dist (rule_of w) s judged)
kind_led false true s w judged = (begun_with s, refl, begin_led joinery_dist (rule_of w) s judged)
kind_led false false s w judged = refl

begun_led : (kind : ℕ) (s : Option view.Settings) (w : Option Window) → ((x : view.Settings) → s ≡ Some x → Judged x)
    → HallLed (begun_hall (hall_for kind s w)) (begun_if (begun_answer (hall_for kind s w)) (account_for kind s w))
begun_led kind None w judged = refl
begun_led kind (Some s) None judged = refl
begun_led kind (Some s) (Some w) judged = kind_led (eqb kind 0) (eqb kind 1) s w (judged s refl)

module _ (m n at : ℕ) where
  -- a session that stands at h, with an account, after one command more
  abbrev Goes : Hall → Account → Command → Result Order Fault → Type 0
  Goes h acc c x =
      HallLed (after_order m n h x) (noted m n (unlocated (and_then x (λ o. located_at at (answer_of h o)))) c acc)

  hull_idle : (d : ℕ) (offsets : List ℤ) (b : Bool)
      → Goes Idle talk.Nothing (command.Hull d offsets) (hull_order at d (record { offsets = offsets }) b)
  hull_idle d offsets true = refl
  hull_idle d offsets false = refl

  idle_on : (c : Command) → Goes Idle talk.Nothing c (order_of at c)
  idle_on (command.Settings s) =
      let h = hall_for s.kind (settings_for s.k s.f s.limit) (window_for s.term s.n) in
      subst (HallLed (begun_hall h))
      (sym (ap (λ r. begun_by r (command.Settings s)) (unlocated_located at (begun_answer h)) ∙ begun_if_lem (begun_answer h) s))
      (begun_led s.kind (settings_for s.k s.f s.limit) (window_for s.term s.n) (settings-judged s.k s.f s.limit))
  idle_on (command.Radius g) = refl
  idle_on command.Open = refl
  idle_on (command.Hull d offsets) = hull_idle d offsets (in_range 8 offsets)
  idle_on (command.Joinery d word) = refl
  idle_on (command.Day d) = refl
  idle_on command.Pick = refl

  panels_on : (w : Window) (s : Stage Panel) (t : Story Panel) → Led hull_dist (rule_of w) s t → (c : Command)
      (x : Result Order Fault) → order_of at c ≡ x → Goes (OfPanels w s) (talk.OfPanels w t) c x
  panels_on w s t led c (Err f) e = (t, refl, led)
  panels_on w s t led c (Ok o) e =
      let r = answer_to hull_dist (rule_of w) s (panel_ask o) in (
        heard m r (panel_ask o) t,
        ap (λ y. talk.OfPanels w (heard m y (to_panels c) t)) (unlocated_located at r)
            ∙ ap (λ a. talk.OfPanels w (heard m r a t)) (panels_said at c o e),
        led_on hull_dist (rule_of w) m s t (panel_ask o) led,
      )

  parts_on : (w : Window) (s : Stage Part) (t : Story Part) → Led joinery_dist (rule_of w) s t → (c : Command)
      (x : Result Order Fault) → order_of at c ≡ x → Goes (OfParts w s) (talk.OfParts w t) c x
  parts_on w s t led c (Err f) e = (t, refl, led)
  parts_on w s t led c (Ok o) e =
      let r = answer_to joinery_dist (rule_of w) s (part_ask o) in (
        heard n r (part_ask o) t,
        ap (λ y. talk.OfParts w (heard n y (to_parts c) t)) (unlocated_located at r)
            ∙ ap (λ a. talk.OfParts w (heard n r a t)) (parts_said at c o e),
        led_on joinery_dist (rule_of w) n s t (part_ask o) led,
      )

  goes_on : (h : Hall) (acc : Account) (c : Command) → HallLed h acc → Goes h acc c (order_of at c)
  goes_on Idle acc c led = subst (λ a. Goes Idle a c (order_of at c)) (sym led) (idle_on c)
  goes_on (OfPanels w s) acc c led =
      subst (λ a. Goes (OfPanels w s) a c (order_of at c)) (sym led.1) (panels_on w s led.0 led.2 c (order_of at c) refl)
  goes_on (OfParts w s) acc c led =
      subst (λ a. Goes (OfParts w s) a c (order_of at c)) (sym led.1) (parts_on w s led.0 led.2 c (order_of at c) refl)

-- Every list of commands leads along a run.
pub led_all : (m n : ℕ) (cs : List (ℕ × Command)) → HallLed (hall_from m n cs) (account_of m n (talk_of m n cs))
led_all m n [] = refl
led_all m n (c ∷ cs) = goes_on m n c.0 (hall_from m n cs) (account_of m n (talk_of m n cs)) c.1 (led_all m n cs)

-- what is promised of an order is promised of its command
pub order_promised : (at : ℕ) (c : Command) (o : Order) (acc : Account) (r : Result (Option Label) Refusal)
    → order_of at c ≡ Ok o → OrderKept acc o r → Promised acc c r
order_promised at c o talk.Nothing r e kept = tt
order_promised at c o (talk.OfPanels w t) r e kept = record {
  pick = λ q. kept.pick (sym (panels_said at c o e) ∙ ap to_panels q);
  room = kept.room;
}
order_promised at c o (talk.OfParts w t) r e kept = record {
  pick = λ q. kept.pick (sym (parts_said at c o e) ∙ ap to_parts q);
  room = kept.room;
}
