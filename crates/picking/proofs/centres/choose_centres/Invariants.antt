use Rattle.rules.specs.Picking.{apart}
use Rattle.picking.proofs.Spreading.{Going}
use Rattle.picking.proofs.centres.choose_centres.Given as goal

abbrev pub invariant-loop-count : goal.invariant-loop-count
invariant-loop-count g l =
    Going (apart (g.T.Tape.dist l.tape)) (λ x. x.arrival) l.k l.list l.initial.answers l.answers l.near l.count (l.at, l.distance)
