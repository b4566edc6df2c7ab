use Rattle.picking.proofs.Greatest.{Far}
use Rattle.picking.proofs.centres.farthest.Given as goal

abbrev pub invariant-loop-i : goal.invariant-loop-i
invariant-loop-i l = Far l.distances l.at l.most l.i
