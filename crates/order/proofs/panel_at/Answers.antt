use Rattle.std.proofs.Common.{ap, ◌∙◌}
use Rattle.fault.specs.Faults.{located_at}
use Rattle.order.proofs.Range.{panel_is}
use Rattle.order.proofs.panel_at.Goals as goal

pub returns : goal.returns
returns c = c.located.ensures ∙ ap (located_at c.args.offset) (panel_is c.args.offsets c.new.result c.new.ensures)
