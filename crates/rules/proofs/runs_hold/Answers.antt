use Rattle.rules.proofs.Upheld.{runs_hold}
use Rattle.rules.proofs.runs_hold.Goals as goal

pub returns : goal.returns
returns g c = runs_hold _
