use Rattle.std.proofs.Common.{◌≡◌, ◌-◌, ◌/◌, ◌%◌, ◌<◌, true, [], ◌++◌, take, sym, refl, ap, ◌∙◌, append-nil, arith}
use Rattle.std.specs.Fmt.{digit_glyph}
use Rattle.digits.specs.Digits.{hex_digits}
use Rattle.digits.proofs.Figures.{hex_none, hex_more, join}
use Rattle.digits.proofs.slices.+put_hex.Goals as goal

pub returns-then-count-eq0 : goal.returns-then-count-eq0
returns-then-count-eq0 t c =
    let none : hex_digits c.args.count c.args.n ≡ [] = ap (λ k. hex_digits k c.args.n) c.if-count-eq0.true ∙ hex_none c.args.n in
    record {
      end = omega arith;
      front = sym (append-nil (take c.args.at c.args.out.now)) ∙ ap (λ xs. take c.args.at c.args.out.now ++ xs) (sym none);
      back = λ k h. refl;
    }

pub returns : goal.returns
returns t c =
    let n = c.args.n in
    let k = c.args.count in
    let some : 0 < k = omega arith in
    let end = c.put_hex-last.ensures.end in
    record {
      end = omega arith;
      front = c.put_digit.ensures.front
          ∙ join (take c.args.at c.args.out.now) (take c.put_hex-last.result c.put_hex-last.new.out) (hex_digits (k - 1) (n / 16)) (hex_digits k n) (digit_glyph true (n % 16))
          c.put_hex-last.ensures.front (hex_more k n some);
      back = λ i h. c.put_digit.ensures.back i h ∙ c.put_hex-last.ensures.back i (omega arith);
    }
