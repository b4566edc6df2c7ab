use Rattle.std.proofs.Common.{◌+◌, ◌≤◌}
use Rattle.measure.specs.Reading.{left}
use Rattle.measure.proofs.piece.PanelRead.read.Given as goal

-- each offset so far took a byte or more
abbrev pub invariant-loop-offset : goal.invariant-loop-offset
invariant-loop-offset l = left l.words + l.offset-index ≤ left l.fn.words
