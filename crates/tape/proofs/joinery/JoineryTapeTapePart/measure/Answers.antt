use Rattle.std.proofs.Common.{arith, rules}
use lib.Bits.{bit_xor, xor_lt}
use lib.Count.{ones-le}
use Rattle.tape.proofs.joinery.JoineryTapeTapePart.measure.Goals as goal

pub returns-clause-value : goal.returns-clause-value
returns-clause-value c =
    let a = c.args.a.now.word in
    let b = c.args.b.now.word in
    let few = ones-le 64 (bit_xor a b) (xor_lt 64 a b (search rules) (search rules)) in
    omega arith
