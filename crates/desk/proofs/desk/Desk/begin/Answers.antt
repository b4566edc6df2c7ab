use Rattle.std.proofs.Common.{sym, subst}
use Rattle.book.proofs.Settling.{judged-holds}
use Rattle.row.specs.Seen.{judged}
use Rattle.rules.specs.Runs.{SettingUp}
use Rattle.desk.proofs.Leading.{begin_led}
use Rattle.desk.specs.Accounts.{Led, begun_with}
use Rattle.desk.proofs.desk.Desk.begin.Goals as goal

pub returns-clause-run : goal.returns-clause-run
returns-clause-run g c = λ dist counts places.
    subst (λ u. Led dist counts (SettingUp u) (begun_with (judged c.args.settings))) (sym c.begin.ensures.rule)
    (begin_led dist counts (judged c.args.settings) (judged-holds c.args.settings))
