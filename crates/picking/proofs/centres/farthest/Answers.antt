use Rattle.picking.proofs.Greatest.{far_keeps, far_place, far_takes, far_value}
use Rattle.picking.proofs.centres.farthest.Goals as goal
use Rattle.picking.proofs.centres.farthest.Goals.{then-distance-most, else-distance-most}

pub loop-i-preserved : goal.loop-i-preserved
loop-i-preserved c =
    let ds = c.args.distances.now in
    elim c.if-distance-most.branch [
      | then-distance-most w ↦
          rw (w.at-is, w.most-is)
          (far_takes ds c.loop-i.at c.loop-i.most c.loop-i.i c.loop-i-test.true w.if-distance-most.true c.loop-i.invariant)
      | else-distance-most w ↦
          rw (w.at-is, w.most-is)
          (far_keeps ds c.loop-i.at c.loop-i.most c.loop-i.i c.loop-i-test.true w.if-distance-most.false c.loop-i.invariant)
    ]

pub returns : goal.returns
returns c =
    let ds = c.args.distances.now in
    record {
      at = far_place ds c.loop-i.at c.loop-i.most c.loop-i.i c.loop-i-test.false c.loop-i.invariant;
      distance = far_value ds c.loop-i.at c.loop-i.most c.loop-i.i c.loop-i-test.false c.loop-i.invariant;
    }
