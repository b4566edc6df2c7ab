use Rattle.std.proofs.Common.{ℕ, ◌≤◌, take}
use Rattle.reach.specs.Covers.{Covers}
use Rattle.reach.proofs.reach.Given as goal

-- the least radius for the pieces so far
abbrev pub invariant-loop-x : goal.invariant-loop-x
invariant-loop-x g l =
    Covers (g.T.Tape.dist l.tape l.board) (g.W.Term.counts l.term) l.clock l.most (take l.x-index l.posted)
    × ((m : ℕ)
    → Covers (g.T.Tape.dist l.tape l.board) (g.W.Term.counts l.term) l.clock m (take l.x-index l.posted)
    → l.most ≤ m)
