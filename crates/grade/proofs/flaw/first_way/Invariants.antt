use Rattle.std.proofs.Common.{◌+◌, ◌*◌}
use Rattle.grade.specs.Verdicts.{WaysHold}
use Rattle.grade.proofs.flaw.first_way.Given as goal

abbrev pub invariant-loop-row : goal.invariant-loop-row
invariant-loop-row l = WaysHold l.numbers (l.row * 256)

abbrev pub invariant-loop-column : goal.invariant-loop-column
invariant-loop-column l = WaysHold l.numbers (l.row * 256 + l.column * 16)

abbrev pub invariant-loop-through : goal.invariant-loop-through
invariant-loop-through l = WaysHold l.numbers (l.row * 256 + l.column * 16 + l.through)
