use Rattle.std.proofs.Common.{◌≡◌, take, nat_abs, ap, ◌∙◌, arith, w32}
use Rattle.std.proofs.lemmas.Int.{to_z-of_z}
use Rattle.digits.proofs.Figures.{below_zero, minus_front, minus_length}
use Rattle.digits.proofs.slices.put_offset.Goals as goal

pub returns-then-x-lt0 : goal.returns-then-x-lt0
returns-then-x-lt0 c =
    let z = c.args.x in
    let below = below_zero z c.ranges.x c.if-x-lt0.true in
    let size : c.unsigned_abs.result ≡ nat_abs z = c.unsigned_abs.ensures.value ∙ ap nat_abs (to_z-of_z w32 z c.ranges.x) in
    let len = minus_length z c.unsigned_abs.result below size in
    let first = c.put-digits.ensures.end in
    let end = c.put_number.ensures.end in
    let bound = c.put_number.ensures.bound in
    record {
      end = omega arith;
      bound = omega arith;
      front = c.put_number.ensures.front
          ∙ minus_front (take c.args.at c.args.out.now) (take c.put-digits.result c.put-digits.new.out) z c.unsigned_abs.result below size
          c.put-digits.ensures.front;
      back = λ k h. c.put_number.ensures.back k h ∙ c.put-digits.ensures.back k (omega arith);
    }
