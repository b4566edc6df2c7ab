-- From what the book's calls promise to what taking a command promises.
use Rattle.std.proofs.Common.{◌≡◌, ℕ, false, List, length, is_ok, Some, None, Ok, Err, Option, Result, sym, refl, ap, ◌∙◌, subst}
use Rattle.cover.specs.Distances.{Distance, Metric}
use Rattle.label.specs.declared.Label.{Label}
use Rattle.refusal.specs.declared.Refusal.{Refusal}
use Rattle.rules.specs.Calls.{PostRule, posted, why_not_post}
use Rattle.rules.specs.Laws.{Lawful}
use Rattle.rules.specs.Promises.{Fits, Story}
use Rattle.rules.specs.Runs.{Opened}
use Rattle.rules.specs.Views.{View}
use Rattle.rules.specs.Words.{after, leaves}
use Rattle.rules.specs.declared.place.Place.{Place}
use Rattle.term.specs.Formulas.{Rule}
use Rattle.desk.proofs.Leading.{led_fits, led_keeps, led_on}
use Rattle.desk.specs.Accounts.{Kept, Led, heard}
use Rattle.desk.specs.Asks.{stage_after}
use Rattle.desk.specs.Seen.{Took, stage_of}
use Rattle.desk.specs.declared.ask.Ask.{Ask}
use Rattle.desk.specs.declared.desk.Desk.{Desk}

-- what a post leaves, whether it was performed or refused
pub post_left : {P : Type 0} (dist : Distance P) (counts : Rule) (b b2 : View P) (p : P) (d : ℕ)
    (r : Result (Unit {0}) Refusal) → r ≡ after (why_not_post b d) (Ok tt)
    → (Fits (Opened (posted dist counts p d b)) → PostRule dist counts b p d r b2) → (is_ok r ≡ false → b2 ≡ b)
    → Fits (Opened (leaves (why_not_post b d) b (posted dist counts p d b)))
    → Opened b2 ≡ Opened (leaves (why_not_post b d) b (posted dist counts p d b))
post_left {P} dist counts b b2 p d r answer rule same = go (why_not_post b d) refl
  where
    go : (o : Option Refusal) → why_not_post b d ≡ o → Fits (Opened (leaves (why_not_post b d) b (posted dist counts p d b)))
        → Opened b2 ≡ Opened (leaves (why_not_post b d) b (posted dist counts p d b))
    go None q fits =
        ap Opened (rule (subst (λ o. Fits (Opened (leaves o b (posted dist counts p d b)))) q fits)).left
    go (Some e) q fits =
        let is : r ≡ Err e = answer ∙ ap (λ o. after o (Ok tt)) q in
        ap Opened (same (ap is_ok is) ∙ ap (λ o. leaves o b (posted dist counts p d b)) (sym q))

module _ {P : Type 0} (dist : Distance P) (metric : Metric dist) (counts : Rule) (law : Lawful counts) (a : Ask P)
    (r : Result (Option Label) Refusal) (was : Desk P) (places : List (Place P)) (is : Desk P) (places2 : List (Place P))
    (took : Took dist counts a r was places is places2) (t : Story P) (led : Led dist counts (stage_of was places) t) where
  -- in a run what was left is the rules'
  pub took_left : stage_of is places2 ≡ stage_after dist counts (length places) (stage_of was places) a
  took_left =
      took.left (led_fits dist metric counts law _ _ (led_on dist counts (length places) (stage_of was places) t a led))

  pub took_led : Led dist counts (stage_of is places2) (heard (length places) r a t)
  took_led =
      subst (λ s. Led dist counts s (heard (length places) r a t)) (sym took_left)
      (subst (λ s. Led dist counts (stage_after dist counts (length places) (stage_of was places) a) (heard (length places) s a t))
      (sym took.answer) (led_on dist counts (length places) (stage_of was places) t a led))

  pub took_keeps : Kept dist counts t a r
  took_keeps = subst (Kept dist counts t a) (sym took.answer) (led_keeps dist metric counts law (stage_of was places) t a led)
