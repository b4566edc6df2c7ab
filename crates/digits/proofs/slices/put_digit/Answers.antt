use Rattle.std.proofs.Common.{[], ◌∷◌, ◌++◌, take, refl, ap, ◌∙◌, arith}
use Rattle.std.proofs.lemmas.List.{take_more_set, drop-set-lt}
use Rattle.digits.proofs.slices.put_digit.Goals as goal

pub returns : goal.returns
returns c =
    let out = c.args.out.now in
    let at = c.args.at in
    record {
      end = refl;
      front = take_more_set out at c.digit_byte.result c.requires.at_in_bounds ∙ ap (λ b. take at out ++ (b ∷ [])) c.digit_byte.ensures;
      back = λ k h. drop-set-lt k out at c.digit_byte.result (omega arith);
    }
