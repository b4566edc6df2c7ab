use Rattle.std.proofs.Common.{◌≡◌, ℕ, length, ap, ◌∙◌, arith}
use Rattle.rules.specs.Picking.{apart}
use Rattle.rules.specs.declared.place.Place.{Place}
use Rattle.picking.proofs.Lowerings.{measured_all, measured_more}
use Rattle.picking.proofs.centres.measure_from.Goals as goal

pub loop-i-preserved : goal.loop-i-preserved
loop-i-preserved g c =
    let f : Place g.row.P.Denot → ℕ = apart (g.T.Tape.dist c.args.tape.now) c.args.centre.now in
    let xs = c.args.list.now in
    let ns = c.loop-i.work in
    let x = c.index-list-i.result in
    let same = c.requires in
    let kept = c.loop-i.auto.work in
    let long : length ns ≡ length xs = omega arith in
    measured_more f xs ns c.loop-i.i x c.measure.result c.loop-i-test.true long
    (c.measure.ensures ∙ ap f c.index-list-i.is) c.loop-i.invariant

pub returns : goal.returns
returns g c =
    let f : Place g.row.P.Denot → ℕ = apart (g.T.Tape.dist c.args.tape.now) c.args.centre.now in
    let xs = c.args.list.now in
    let ns = c.loop-i.work in
    let same = c.requires in
    let kept = c.loop-i.auto.work in
    let long : length ns ≡ length xs = omega arith in
    measured_all f xs ns c.loop-i.i c.loop-i-test.false long c.loop-i.invariant
