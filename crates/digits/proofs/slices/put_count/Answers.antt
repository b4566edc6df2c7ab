use Rattle.std.proofs.Common.{◌^◌, ◌<◌, ◌≤◌, length, decimal, arith, rules}
use Rattle.std.proofs.lemmas.Fmt.{length-decimal-le}
use Rattle.digits.proofs.slices.put_count.Goals as goal

pub put_decimal-requires : goal.put_decimal-requires
put_decimal-requires c =
    let fits : c.args.n < 2 ^ 64 = search rules in
    let short : length (decimal c.args.n) ≤ 20 = length-decimal-le 20 c.args.n (omega arith) (omega arith) fits in
    omega arith

pub returns : goal.returns
returns c =
    let fits : c.args.n < 2 ^ 64 = search rules in
    let short : length (decimal c.args.n) ≤ 20 = length-decimal-le 20 c.args.n (omega arith) (omega arith) fits in
    let end = c.put_decimal.ensures.end in
    record { end = end; bound = omega arith; front = c.put_decimal.ensures.front; back = c.put_decimal.ensures.back }
