use Rattle.rules.proofs.Upheld.{runs_hold}
use Rattle.rules.proofs.runs_hold_under.Goals as goal

pub returns : goal.returns
returns g c =
    runs_hold _ _
    (record {
      range = g.met.T.Tape.range c.args.tape.now;
      zero = g.met.T.Tape.zero c.args.tape.now;
      symmetric = g.met.T.Tape.symmetric c.args.tape.now;
      triangle = g.met.T.Tape.triangle c.args.tape.now;
    })
    _
    (record {
      newest = g.met.W.Term.newest c.args.term.now;
      expired = g.met.W.Term.expired c.args.term.now;
      newer = g.met.W.Term.newer c.args.term.now;
    })
