use Rattle.std.proofs.Common.{filter, rules}
use Rattle.std.proofs.lemmas.Slice.{overwrites}
use Rattle.row.proofs.Edited.{attractors_put}
use Rattle.row.proofs.radius.Radius.keep_attractors.Goals as goal

pub returns-clause-seen : goal.returns-clause-seen
returns-clause-seen g c =
    let r = c.args.self.now in
    attractors_put r.settings r.row.now (filter (g.Q.Test.passes c.args.test.now)) c.keep-self.result r.part.now c.keep-self.new.list
    r.within.0 r.size (search (rules, overwrites)) (search (rules, overwrites)) c.keep-self.ensures.kept
