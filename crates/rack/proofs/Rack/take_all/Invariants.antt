use Rattle.std.proofs.Common.{length}
use Rattle.rack.specs.Waiting.{EndOf}
use Rattle.rack.proofs.Rack.take_all.Given as goal

-- what waits is the end of what waited
abbrev pub invariant-loop-command : goal.invariant-loop-command
invariant-loop-command l = EndOf l.initial.inflow.bytes l.inflow.bytes

abbrev pub decreases-loop-command : goal.decreases-loop-command
decreases-loop-command l = length l.inflow.bytes
