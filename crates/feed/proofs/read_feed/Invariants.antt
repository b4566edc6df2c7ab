use Rattle.std.proofs.Common.{◌-◌, length}
use Rattle.feed.proofs.read_feed.Given as goal

abbrev pub decreases-loop-at : goal.decreases-loop-at
decreases-loop-at l = length l.bytes - l.at
