use Rattle.packed.proofs.Leasts.{LeastSoFar}
use Rattle.packed.proofs.search.least_of.Given as goal

abbrev pub invariant-loop-i : goal.invariant-loop-i
invariant-loop-i g l = LeastSoFar l.list l.least l.i
