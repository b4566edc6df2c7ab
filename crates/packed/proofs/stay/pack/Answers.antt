use Rattle.std.proofs.Common.{arith}
use Rattle.packed.proofs.Packing.{packing_more_no, packing_more_set}
use Rattle.packed.proofs.stay.pack.Goals as goal
use Rattle.packed.proofs.stay.pack.Goals.{then-marks-i, else-marks-i}

pub loop-i-preserved : goal.loop-i-preserved
loop-i-preserved g c =
    let bs = c.args.marks.now in
    let xs = c.args.list.now in
    let ys = c.loop-i.list in
    let i = c.loop-i.i in
    let inside = c.loop-i-test.true in
    let short = c.requires in
    let marked = c.told-marks in
    let same = c.loop-i.auto.list in
    elim c.if-marks-i.branch [
      | then-marks-i w ↦
          rw (w.list-is, w.count-is)
          (packing_more_set bs xs ys c.loop-i.count i w.index-list-i.result c.loop-i.invariant (omega arith) (omega arith) w.if-marks-i.true w.index-list-i.is)
      | else-marks-i w ↦
          rw (w.list-is, w.count-is)
          (packing_more_no bs xs ys c.loop-i.count i c.loop-i.invariant (omega arith) (omega arith) w.if-marks-i.false)
    ]
