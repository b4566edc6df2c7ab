use Rattle.std.proofs.Common.{Ok, sym, ap, arith}
use Rattle.rules.specs.Words.{after}
use Rattle.row.specs.Seen.{judged}
use Rattle.book.proofs.Settling.{why-last}
use Rattle.book.proofs.setup.Setup.may_enter.Goals as goal

pub returns-then-not-may_follow : goal.returns-then-not-may_follow
returns-then-not-may_follow g c =
    let u = c.args.self.now in
    let low = u.some in
    let long = u.long in
    let room = c.if-self-ge24.false in
    ap (λ o. after o (Ok tt)) (sym (why-last (judged u.settings) u.radii u.count c.args.radius _ low (omega arith) (omega arith) c.if-not-may_follow.ensures))

pub returns : goal.returns
returns g c =
    let u = c.args.self.now in
    let low = u.some in
    let long = u.long in
    let room = c.if-self-ge24.false in
    ap (λ o. after o (Ok tt)) (sym (why-last (judged u.settings) u.radii u.count c.args.radius _ low (omega arith) (omega arith) c.if-not-may_follow.ensures))
