use Rattle.std.proofs.Common.{refl}
use Rattle.row.specs.Seen.{judged}
use Rattle.rules.specs.Runs.{begun}
use Rattle.book.proofs.Settling.{judged-holds}
use Rattle.book.proofs.setup.Setup.begin.Goals as goal

pub returns : goal.returns
returns g c = record {
  rule = refl;
  run = λ dist counts. begun (judged c.args.settings) (judged-holds c.args.settings) refl;
}
