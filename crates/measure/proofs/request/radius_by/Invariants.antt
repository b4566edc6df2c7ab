use Rattle.measure.specs.Reading.{left}
use Rattle.measure.proofs.request.radius_by.Given as goal

abbrev pub decreases-loop-word : goal.decreases-loop-word
decreases-loop-word g l = left l.words
