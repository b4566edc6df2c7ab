use Rattle.std.proofs.Common.{◌≡◌, ◌*◌, drop}
use Rattle.rules.specs.Picking.{passes}
use Rattle.picking.specs.Seen.{seen}
use Rattle.picking.specs.Trials.{first_passing, index_from}
use Rattle.picking.proofs.Choosing.{Trying}
use Rattle.picking.proofs.trial.first_passing.Given as goal

-- none has passed before j
abbrev pub invariant-radii : goal.invariant-radii
invariant-radii g l =
    index_from (passes (g.T.Tape.dist l.tape) l.k) l.j (drop l.j (seen l.radii))
    ≡ first_passing (g.T.Tape.dist l.tape) l.k (seen l.radii)

abbrev pub invariant-loop-i : goal.invariant-loop-i
invariant-loop-i g l =
    Trying (g.T.Tape.dist l.tape) (2 * l.row.radius) l.k l.list l.chosen l.count l.i
