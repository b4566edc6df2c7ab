use Rattle.std.proofs.Common.{◌≡◌, map, take}
use Rattle.rules.specs.Picking.{apart}
use Rattle.picking.proofs.centres.measure_from.Given as goal

abbrev pub invariant-loop-i : goal.invariant-loop-i
invariant-loop-i g l = take l.i l.work ≡ map (apart (g.T.Tape.dist l.tape) l.centre) (take l.i l.list)
