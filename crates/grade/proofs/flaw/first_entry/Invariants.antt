use Rattle.std.proofs.Common.{◌+◌, ◌*◌}
use Rattle.grade.specs.Verdicts.{EntriesHold}
use Rattle.grade.proofs.flaw.first_entry.Given as goal

abbrev pub invariant-loop-row : goal.invariant-loop-row
invariant-loop-row l = EntriesHold l.numbers (l.row * 16)

abbrev pub invariant-loop-column : goal.invariant-loop-column
invariant-loop-column l = EntriesHold l.numbers (l.row * 16 + l.column)
