use Rattle.std.proofs.Common.{Ok, arith}
use Rattle.std.proofs.lemmas.Grind.{common_steps}
use Rattle.wire.specs.Wire.{Reads}
use Rattle.wire.proofs.Exact.{answers}
use Rattle.wire.proofs.reading.read.Goals as goal

pub returns-in_err-operands-clause-exact : goal.returns-in_err-operands-clause-exact
returns-in_err-operands-clause-exact c =
    let reads : Reads c.args.bytes.now c.args.at c.from_residual-in_err-operands.result = grind (arith, common_steps) in
    answers c.args.bytes.now c.args.at c.from_residual-in_err-operands.result reads

pub returns-clause-exact : goal.returns-clause-exact
returns-clause-exact c =
    let reads : Reads c.args.bytes.now c.args.at (Ok (c.command_of-command.result, c.width-size.result)) = grind (arith, common_steps) in
    answers c.args.bytes.now c.args.at (Ok (c.command_of-command.result, c.width-size.result)) reads
