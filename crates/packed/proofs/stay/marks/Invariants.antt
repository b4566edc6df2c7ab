use Rattle.std.proofs.Common.{◌≡◌, map, length, take}
use Rattle.packed.proofs.stay.marks.Given as goal

-- the marks so far
abbrev pub invariant-loop-i : goal.invariant-loop-i
invariant-loop-i g l = (take l.i l.marks ≡ map (g.Q.Test.passes l.test) (take l.i l.list)) × (length l.marks ≡ 64)
