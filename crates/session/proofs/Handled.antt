-- From an order taken to a command handled.
use Rattle.std.proofs.Common.{◌≡◌, ℕ, List, ◌∷◌, Ok, Option, Result, sym, ap, ◌∙◌, subst}
use Rattle.command.specs.declared.Command.{Command}
use Rattle.label.specs.declared.Label.{Label}
use Rattle.order.specs.Orders.{order_of}
use Rattle.order.specs.declared.Order.{Order}
use Rattle.refusal.specs.declared.Refusal.{Refusal}
use Rattle.session.proofs.Talking.{led_all, order_promised}
use Rattle.session.specs.Halls.{Hall, after_order, hall_from}
use Rattle.session.specs.Seen.{HallLed, Moved}
use Rattle.session.specs.Talks.{Promised, account_of, talk_of}

module _ (m n at : ℕ) (c : Command) (o : Order) (r : Result (Option Label) Refusal) (was is : Hall)
    (made : order_of at c ≡ Ok o) (moved : Moved o r m n was is) (cs : List (ℕ × Command)) (from : was ≡ hall_from m n cs) where
  led : HallLed was (account_of m n (talk_of m n cs))
  led = subst (λ h. HallLed h (account_of m n (talk_of m n cs))) (sym from) (led_all m n cs)

  pub order_run : is ≡ hall_from m n ((at, c) ∷ cs)
  order_run =
      moved.run _ led ∙ ap (λ h. after_order m n h (Ok o)) from ∙ ap (after_order m n (hall_from m n cs)) (sym made)

  pub order_holds : Promised (account_of m n (talk_of m n cs)) c r
  order_holds = order_promised at c o _ r made (moved.holds _ led)
