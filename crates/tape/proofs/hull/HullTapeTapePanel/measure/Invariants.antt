use Rattle.std.proofs.Common.{◌≡◌, length}
use Rattle.tape.specs.Hull.{widest}
use Rattle.tape.proofs.hull.HullTapeTapePanel.measure.Given as goal

-- the greatest difference so far
abbrev pub invariant-loop-x : goal.invariant-loop-x
invariant-loop-x l = l.most ≡ widest (length l.yielded) l.a.offsets l.b.offsets
