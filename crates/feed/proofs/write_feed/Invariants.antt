use Rattle.std.proofs.Common.{◌≤◌, length}
use Rattle.feed.proofs.write_feed.Given as goal

-- no more lines are bad than there were
abbrev pub invariant-loop-index : goal.invariant-loop-index
invariant-loop-index l =
    (goal.iterator-loop-index).can_next l.index-iterator
    × (goal.iterator-loop-index).is_finite l.index-iterator
    × (l.bad ≤ length l.yielded)
