use Rattle.cover.proofs.Pigeons.{pigeons}
use Rattle.cover.proofs.pigeonhole.Goals as goal

pub returns : goal.returns
returns g c = pigeons _
