use Rattle.std.proofs.Common.{◌/◌, ◌%◌, ◌^◌, ◌<◌, true, ◌++◌, take, decimal, sym, ap, ◌∙◌, arith, rules}
use Rattle.std.specs.Fmt.{digit_glyph}
use Rattle.digits.proofs.Figures.{decimal_one, decimal_more, length_one, length_more, join}
use Rattle.digits.proofs.slices.+put_decimal.Goals as goal

pub put_digit-requires : goal.put_digit-requires
put_digit-requires t c =
    let one = length_one c.args.n c.if-n-lt10.true in
    record { at_in_bounds = omega arith; digit_bound = omega arith }

pub returns-then-n-lt10 : goal.returns-then-n-lt10
returns-then-n-lt10 t c =
    let one = decimal_one c.args.n c.if-n-lt10.true in
    let len = length_one c.args.n c.if-n-lt10.true in
    record {
      end = omega arith;
      front = c.put_digit.ensures.front ∙ ap (λ xs. take c.args.at c.args.out.now ++ xs) (sym one);
      back = c.put_digit.ensures.back;
    }

pub put_decimal-last-requires : goal.put_decimal-last-requires
put_decimal-last-requires t c =
    let fits : c.args.n < 2 ^ 64 = search rules in
    let len = length_more c.args.n c.if-n-lt10.false fits in
    (search rules, omega arith)

pub put_digit-requires-2 : goal.put_digit-requires-2
put_digit-requires-2 t c =
    let fits : c.args.n < 2 ^ 64 = search rules in
    let len = length_more c.args.n c.if-n-lt10.false fits in
    let end = c.put_decimal-last.ensures.end in
    record { at_in_bounds = omega arith; digit_bound = omega arith }

pub returns : goal.returns
returns t c =
    let fits : c.args.n < 2 ^ 64 = search rules in
    let n = c.args.n in
    let len = length_more n c.if-n-lt10.false fits in
    let end = c.put_decimal-last.ensures.end in
    record {
      end = omega arith;
      front = c.put_digit-2.ensures.front
          ∙ join (take c.args.at c.args.out.now) (take c.put_decimal-last.result c.put_decimal-last.new.out) (decimal (n / 10)) (decimal n) (digit_glyph true (n % 10))
          c.put_decimal-last.ensures.front (decimal_more n c.if-n-lt10.false fits);
      back = λ k h. c.put_digit-2.ensures.back k h ∙ c.put_decimal-last.ensures.back k (omega arith);
    }
