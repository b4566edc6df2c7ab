use Rattle.wire.proofs.Exact.{reads_back}
use Rattle.wire.proofs.law.written_reads_back.Goals as goal

pub returns : goal.returns
returns c =
    reads_back c.args.command.now c.args.out.now c.write.new.out c.in_ok-write.field-0 c.write.result c.read.result
    c.carried.ensures c.in_ok-write.was c.write.ensures.answer c.write.ensures.list c.read.ensures.exact
