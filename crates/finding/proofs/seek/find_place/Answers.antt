use Rattle.std.proofs.Common.{◌≡◌, eqb, refl, ap, ◌∙◌, rules}
use Rattle.rules.specs.Calls.{lying, place_of}
use Rattle.rules.specs.Words.{first_of}
use Rattle.finding.proofs.Seeking.{no_place}
use Rattle.finding.proofs.seek.find_place.Goals as goal

pub returns : goal.returns
returns g c =
    c.first_answer.ensures place_of (λ x. eqb x.1.arrival c.args.arrival) (record {
      none = refl;
      some = no_place;
      first = λ start xs r p.
          let post = p.2 in
          let e : r ≡ place_of (first_of (λ x. eqb x.1.arrival c.args.arrival) (lying start p.0.now)) = search rules in
          e ∙ ap (λ ys. place_of (first_of (λ x. eqb x.1.arrival c.args.arrival) (lying start ys))) p.1;
    })
