use Rattle.wire.proofs.Exact.{copied}
use Rattle.wire.proofs.law.read_writes_back.Goals as goal

pub returns : goal.returns
returns c =
    copied c.args.bytes.now c.args.at c.in_ok-command.field-0-1 c.in_ok-command.command c.args.out.now
    c.write.new.out c.write.result c.in_ok-command.ensures.answer c.write.ensures.answer c.write.ensures.list
