use Rattle.std.proofs.Common.{rules}
use Rattle.std.proofs.lemmas.Iterator.{YieldsList-from_slice}
use Rattle.std.proofs.lemmas.Iterator.Search.{all_from_yields_List}
use Rattle.packed.proofs.search.all_of.Goals as goal

pub returns : goal.returns
returns g c =
    all_from_yields_List (g.Q.Test.passes c.args.test.now) _ _ _ c.all.ensures.ran (YieldsList-from_slice c.args.list.now cc)
    (λ x b q k. search rules)
