use Rattle.cover.specs.Distances.{Metric}
use Rattle.desk.proofs.Spans.{span_lawful}
use Rattle.desk.proofs.Taken.{took_keeps, took_led, took_left}
use Rattle.desk.proofs.desk.Desk.take.Goals as goal

pub returns : goal.returns
returns g c =
    let tape = c.args.tape.now in
    let metric : Metric (g.T.Tape.dist tape) = record {
      range = g.met.T.Tape.range tape;
      zero = g.met.T.Tape.zero tape;
      symmetric = g.met.T.Tape.symmetric tape;
      triangle = g.met.T.Tape.triangle tape;
    } in
    let law = span_lawful c.args.self.now.span in
    let took = c.perform.ensures in
    record {
      took = took;
      run = λ t led. (took_left _ metric _ law _ _ _ _ _ _ took t led, took_led _ metric _ law _ _ _ _ _ _ took t led);
      holds = took_keeps _ metric _ law _ _ _ _ _ _ took;
    }
