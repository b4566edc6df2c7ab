use Rattle.std.proofs.Common.{◌<◌, length}
use Rattle.rack.proofs.follow.Given as goal

abbrev pub invariant-loop : goal.invariant-loop
invariant-loop l = length l.inflow.bytes < 37
