use Rattle.std.proofs.Common.{◌≡◌, eqb, refl, ap, ◌∙◌, rules}
use Rattle.rules.specs.Calls.{lying, piece_of}
use Rattle.rules.specs.Words.{first_of}
use Rattle.finding.proofs.Handing.{no_piece}
use Rattle.finding.proofs.hand.piece_at.Goals as goal

pub returns : goal.returns
returns g c =
    c.first_answer.ensures piece_of (λ x. eqb x.0 c.args.at) (record {
      none = refl;
      some = no_piece;
      first = λ start xs r p.
          let post = p.2 in
          let e : r ≡ piece_of (first_of (λ x. eqb x.0 c.args.at) (lying start p.0.now)) = search rules in
          e ∙ ap (λ ys. piece_of (first_of (λ x. eqb x.0 c.args.at) (lying start ys))) p.1;
    })
