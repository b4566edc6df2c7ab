use Rattle.std.proofs.Common.{◌≡◌, ◌+◌, ◌^◌, ◌<◌, ◌≤◌, ◌++◌, length, take, decimal, ap, ◌∙◌, arith, rules}
use Rattle.std.proofs.lemmas.Fmt.{length-decimal-le}
use Rattle.digits.proofs.slices.put_number.Goals as goal

pub put_decimal-requires : goal.put_decimal-requires
put_decimal-requires c =
    let value : c.from.result ≡ c.args.n = search rules in
    let fits : c.args.n < 2 ^ 32 = search rules in
    let short : length (decimal c.from.result) ≤ 10 = length-decimal-le 10 c.from.result (omega arith) (omega arith) (omega arith) in
    omega arith

pub returns : goal.returns
returns c =
    let value : c.from.result ≡ c.args.n = search rules in
    let fits : c.args.n < 2 ^ 32 = search rules in
    let short : length (decimal c.args.n) ≤ 10 = length-decimal-le 10 c.args.n (omega arith) (omega arith) (omega arith) in
    let end : c.put_decimal.result ≡ c.args.at + length (decimal c.args.n)
    = c.put_decimal.ensures.end ∙ ap (λ n. c.args.at + length (decimal n)) value in
    record {
      end = end;
      bound = omega arith;
      front = c.put_decimal.ensures.front ∙ ap (λ n. take c.args.at c.args.out.now ++ decimal n) value;
      back = c.put_decimal.ensures.back;
    }
