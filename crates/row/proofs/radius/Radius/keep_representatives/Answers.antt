use Rattle.std.proofs.Common.{◌+◌, ◌-◌, filter, arith, rules}
use Rattle.std.proofs.lemmas.Slice.{overwrites}
use Rattle.row.proofs.Edited.{representatives_put}
use Rattle.row.proofs.radius.Radius.keep_representatives.Goals as goal

pub returns-clause-seen : goal.returns-clause-seen
returns-clause-seen g c =
    let r = c.args.self.now in
    let start = c.representatives_at-start.result in
    representatives_put r.settings r.row.now (filter (g.Q.Test.passes c.args.test.now)) start ((start + r.row.now.representatives) - start)
    c.keep-self.result r.part.now c.keep-self.new.list
    c.representatives_at-start.ensures (omega arith) r.within r.size (search (rules, overwrites)) (search (rules, overwrites)) c.keep-self.ensures.kept
