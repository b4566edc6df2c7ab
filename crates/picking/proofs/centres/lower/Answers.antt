use Rattle.std.proofs.Common.{◌≡◌, ℕ, length, ap, ◌∙◌, arith}
use Rattle.rules.specs.Picking.{apart}
use Rattle.rules.specs.declared.place.Place.{Place}
use Rattle.picking.proofs.Lowerings.{lowered-all, lowered_more}
use Rattle.picking.proofs.centres.lower.Goals as goal

pub loop-i-preserved : goal.loop-i-preserved
loop-i-preserved g c =
    let f : Place g.row.P.Denot → ℕ = apart (g.T.Tape.dist c.args.tape.now) c.args.centre.now in
    let xs = c.args.list.now in
    let ns = c.loop-i.work in
    let same = c.requires in
    let kept = c.loop-i.auto.work in
    let long : length ns ≡ length xs = omega arith in
    lowered_more f xs c.args.work.now ns c.loop-i.i c.index-list-i.result c.measure.result c.min.result c.loop-i-test.true long
    (c.measure.ensures ∙ ap f c.index-list-i.is) c.min.ensures c.loop-i.invariant

pub returns : goal.returns
returns g c =
    let f : Place g.row.P.Denot → ℕ = apart (g.T.Tape.dist c.args.tape.now) c.args.centre.now in
    lowered-all f c.args.list.now c.args.work.now c.loop-i.work c.loop-i.i c.loop-i-test.false c.loop-i.invariant
