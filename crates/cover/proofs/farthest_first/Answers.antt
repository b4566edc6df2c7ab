use Rattle.cover.proofs.Farthest.{farthest_first_lem}
use Rattle.cover.proofs.farthest_first.Goals as goal

pub returns : goal.returns
returns g c = farthest_first_lem _
