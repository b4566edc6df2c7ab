use Rattle.std.proofs.Common.{◌||◌, ltb, sym, ap, ◌∙◌}
use Rattle.std.proofs.lemmas.Bool.{lt-ltb}
use Rattle.row.specs.Seen.{judged}
use Rattle.rules.specs.Limits.{work_needed}
use Rattle.book.proofs.open.Book.lists_short.Goals as goal

pub returns-then-answers-self : goal.returns-then-answers-self
returns-then-answers-self g c =
    let b = c.args.self.now in
    let is = lt-ltb c.args.answers b.settings.k c.if-answers-self.true in
    is ∙ sym (ap (λ t. t || ltb c.args.work (work_needed (judged b.settings))) is)
