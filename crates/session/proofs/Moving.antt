-- From what a desk promises to what the session promises.
use Rattle.std.proofs.Common.{◌≡◌, ℕ, List, length, Option, Result, sym, refl, ap, ◌∙◌, subst}
use Rattle.cover.specs.Distances.{Distance}
use Rattle.desk.specs.Accounts.{Kept, Led, heard}
use Rattle.desk.specs.Asks.{answer_to, stage_after}
use Rattle.desk.specs.Seen.{Took, stage_of}
use Rattle.desk.specs.declared.ask.Ask.{Ask}
use Rattle.desk.specs.declared.desk.Desk.{Desk}
use Rattle.label.specs.declared.Label.{Label}
use Rattle.order.specs.declared.Order.{Order}
use Rattle.refusal.specs.declared.Refusal.{Refusal}
use Rattle.rules.specs.Promises.{Fits, Story}
use Rattle.rules.specs.Runs.{Stage}
use Rattle.rules.specs.declared.place.Place.{Place}
use Rattle.tape.specs.declared.hull.Panel.{Panel}
use Rattle.tape.specs.declared.joinery.Part.{Part}
use Rattle.term.specs.Formulas.{Rule}
use Rattle.term.specs.Spans.{spanned}
use Rattle.term.specs.declared.span.Span.{Span}
use Rattle.term.specs.declared.span.Span.TheVariants as span
use Rattle.session.specs.Halls.{OfPanels, OfParts, hull_dist, joinery_dist, panel_ask, part_ask, rule_of}
use Rattle.session.specs.Seen.{Moved, OrderKept, window_of}

-- the meaning of a term chosen at run time is that of its window
rule_of_lem : (s : Span) → spanned s ≡ rule_of (window_of s)
rule_of_lem (span.Pieces t) = refl
rule_of_lem (span.Days t) = refl

-- what a desk promises of a command, under a rule
record Stepped {P : Type 0} (dist : Distance P) (m : ℕ) (a : Ask P) (r : Result (Option Label) Refusal) (s s2 : Stage P)
    (counts : Rule) : Type 0 where
  answer : r ≡ answer_to dist counts s a
  left : Fits (stage_after dist counts m s a) → s2 ≡ stage_after dist counts m s a
  run : (t : Story P) → Led dist counts s t → s2 ≡ stage_after dist counts m s a
  holds : (t : Story P) → Led dist counts s t → Kept dist counts t a r

stepped : {P : Type 0} (dist : Distance P) (a b : Ask P) (r : Result (Option Label) Refusal) (was is : Desk P)
    (xs ys : List (Place P)) → a ≡ b → Took dist (spanned was.span) a r was xs is ys
    → ((t : Story P) → Led dist (spanned was.span) (stage_of was xs) t
    → (stage_of is ys ≡ stage_after dist (spanned was.span) (length xs) (stage_of was xs) a)
    × Led dist (spanned was.span) (stage_of is ys) (heard (length xs) r a t))
    → ((t : Story P) → Led dist (spanned was.span) (stage_of was xs) t → Kept dist (spanned was.span) t a r)
    → Stepped dist (length xs) b r (stage_of was xs) (stage_of is ys) (rule_of (window_of was.span))
stepped dist a b r was is xs ys same took run holds =
    subst (Stepped dist (length xs) b r (stage_of was xs) (stage_of is ys)) (rule_of_lem was.span)
    (subst (λ x. Stepped dist (length xs) x r (stage_of was xs) (stage_of is ys) (spanned was.span)) same (record {
      answer = took.answer;
      left = took.left;
      run = λ t led. (run t led).0;
      holds = holds;
    }))

pub panels_moved : (o : Order) (a : Ask Panel) (r : Result (Option Label) Refusal) (n : ℕ) (was is : Desk Panel)
    (xs ys : List (Place Panel)) → a ≡ panel_ask o → Took hull_dist (spanned was.span) a r was xs is ys
    → ((t : Story Panel) → Led hull_dist (spanned was.span) (stage_of was xs) t
    → (stage_of is ys ≡ stage_after hull_dist (spanned was.span) (length xs) (stage_of was xs) a)
    × Led hull_dist (spanned was.span) (stage_of is ys) (heard (length xs) r a t))
    → ((t : Story Panel) → Led hull_dist (spanned was.span) (stage_of was xs) t → Kept hull_dist (spanned was.span) t a r)
    → Moved o r (length xs) n (OfPanels (window_of was.span) (stage_of was xs))
    (OfPanels (window_of is.span) (stage_of is ys))
panels_moved o a r n was is xs ys same took run holds =
    let step = stepped hull_dist a (panel_ask o) r was is xs ys same took run holds in
    let to : (s : Stage Panel) → stage_of is ys ≡ s → OfPanels (window_of is.span) (stage_of is ys) ≡ OfPanels (window_of was.span) s = λ s e.
    ap (λ x. OfPanels (window_of x) (stage_of is ys)) took.term ∙ ap (OfPanels (window_of was.span)) e in
    record {
      answer = step.answer;
      left = λ fits. to _ (step.left fits);
      run = λ acc led. to _ (step.run led.0 led.2);
      holds = λ acc led. subst (λ x. OrderKept x o r) (sym led.1) (step.holds led.0 led.2);
    }

pub parts_moved : (o : Order) (a : Ask Part) (r : Result (Option Label) Refusal) (m : ℕ) (was is : Desk Part)
    (xs ys : List (Place Part)) → a ≡ part_ask o → Took joinery_dist (spanned was.span) a r was xs is ys
    → ((t : Story Part) → Led joinery_dist (spanned was.span) (stage_of was xs) t
    → (stage_of is ys ≡ stage_after joinery_dist (spanned was.span) (length xs) (stage_of was xs) a)
    × Led joinery_dist (spanned was.span) (stage_of is ys) (heard (length xs) r a t))
    → ((t : Story Part) → Led joinery_dist (spanned was.span) (stage_of was xs) t → Kept joinery_dist (spanned was.span) t a r)
    → Moved o r m (length xs) (OfParts (window_of was.span) (stage_of was xs))
    (OfParts (window_of is.span) (stage_of is ys))
parts_moved o a r m was is xs ys same took run holds =
    let step = stepped joinery_dist a (part_ask o) r was is xs ys same took run holds in
    let to : (s : Stage Part) → stage_of is ys ≡ s → OfParts (window_of is.span) (stage_of is ys) ≡ OfParts (window_of was.span) s = λ s e.
    ap (λ x. OfParts (window_of x) (stage_of is ys)) took.term ∙ ap (OfParts (window_of was.span)) e in
    record {
      answer = step.answer;
      left = λ fits. to _ (step.left fits);
      run = λ acc led. to _ (step.run led.0 led.2);
      holds = λ acc led. subst (λ x. OrderKept x o r) (sym led.1) (step.holds led.0 led.2);
    }
