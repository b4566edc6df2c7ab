use Rattle.packed.proofs.Packing.{Packing}
use Rattle.packed.proofs.stay.pack.Given as goal

abbrev pub invariant-loop-i : goal.invariant-loop-i
invariant-loop-i g l = Packing l.marks l.initial.list l.list l.count l.i
