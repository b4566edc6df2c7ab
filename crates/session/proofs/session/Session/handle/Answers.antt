use Rattle.std.proofs.Common.{sym}
use Rattle.session.proofs.Handled.{order_holds, order_run}
use Rattle.session.proofs.Talking.{unlocated_located}
use Rattle.session.proofs.session.Session.handle.Goals as goal

pub returns-clause-run : goal.returns-clause-run
returns-clause-run c =
    order_run _ _ c.args.offset c.args.command _ _ _ _ (sym c.in_ok-order.ensures) c.take.ensures.moved

pub returns-clause-holds : goal.returns-clause-holds
returns-clause-holds c = λ cs from.
    rw (c.located.ensures, unlocated_located)
    (order_holds _ _ c.args.offset c.args.command _ _ _ _ (sym c.in_ok-order.ensures) c.take.ensures.moved cs from)
