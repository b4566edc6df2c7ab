use Rattle.std.proofs.Common.{rules}
use Rattle.script.specs.Scan.{start_at, end_at}
use Rattle.script.proofs.scan.Words.settings.Goals as goal

pub returns-in_err-term : goal.returns-in_err-term
unfolding start_at end_at
returns-in_err-term c = search rules
