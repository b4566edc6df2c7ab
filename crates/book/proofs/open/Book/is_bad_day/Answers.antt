use Rattle.std.proofs.Common.{◌||◌, ltb, sym, ap, ◌∙◌}
use Rattle.std.proofs.lemmas.Bool.{le-ltb, lt-ltb}
use Rattle.book.proofs.open.Book.is_bad_day.Goals as goal

pub returns-then-day-self : goal.returns-then-day-self
returns-then-day-self g c =
    let is = lt-ltb c.args.day c.args.self.now.day c.if-day-self.true in
    is ∙ sym (ap (λ t. t || ltb 1000000 c.args.day) is)

pub returns-else-day-self : goal.returns-else-day-self
returns-else-day-self g c = sym (ap (λ t. t || ltb 1000000 c.args.day) (le-ltb c.args.day c.args.self.now.day c.if-day-self.false))
