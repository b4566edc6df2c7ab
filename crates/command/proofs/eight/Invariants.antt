use Rattle.std.proofs.Common.{ℕ, ◌<◌, get_or, pos, w32, SFits}
use Rattle.command.proofs.eight.Given as goal

-- the numbers so far fit
abbrev pub invariant-loop-offset : goal.invariant-loop-offset
invariant-loop-offset l = (k : ℕ) → k < l.offset-index → SFits w32 (get_or l.offsets k (pos 0))
