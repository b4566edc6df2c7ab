use Rattle.std.proofs.Common.{◌∙◌, arith}
use Rattle.std.proofs.lemmas.List.{take_all}
use Rattle.packed.proofs.Alls.{kept_all}
use Rattle.packed.proofs.Packing.{picked_by}
use Rattle.packed.proofs.stay.keep.Goals as goal

pub returns-then-all_of-clause-kept : goal.returns-then-all_of-clause-kept
returns-then-all_of-clause-kept g c =
    take_all _ c.args.list.now (omega arith) ∙ kept_all (g.Q.Test.passes c.args.test.now) c.args.list.now c.if-all_of.ensures

pub returns-clause-kept : goal.returns-clause-kept
returns-clause-kept g c =
    c.pack.ensures.packed ∙ picked_by (g.Q.Test.passes c.args.test.now) c.marks-stay.result c.args.list.now c.marks-stay.ensures
