use Rattle.rules.specs.Picking.{apart}
use Rattle.picking.proofs.Lowerings.{Lowered}
use Rattle.picking.proofs.centres.lower.Given as goal

abbrev pub invariant-loop-i : goal.invariant-loop-i
invariant-loop-i g l = Lowered (apart (g.T.Tape.dist l.tape) l.centre) l.list l.initial.work l.work l.i
