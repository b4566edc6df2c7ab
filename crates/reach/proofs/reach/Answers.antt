use Rattle.std.proofs.Common.{ℕ, Bool, ◌∙◌}
use Rattle.reach.specs.declared.Posted.{Posted}
use Rattle.reach.proofs.Leasts.{least-all, least_fails, least-passes}
use Rattle.reach.proofs.reach.Goals as goal
use Rattle.reach.proofs.reach.Goals.{then-still, else-still}

pub loop-x-preserved : goal.loop-x-preserved
loop-x-preserved g c =
    let test : Posted g.row.P.Denot → Bool =
    λ x. g.W.Term.counts c.args.term.now x.stamp.arrival x.stamp.day c.args.clock.posts c.args.clock.day in
    let size : Posted g.row.P.Denot → ℕ = λ x. g.T.Tape.dist c.args.tape.now c.args.board.now x.piece in
    let i = c.loop-x.x-index in
    let xs = c.args.posted.now in
    let x = c.x-item.result in
    let before = c.loop-x.most in
    let after = c.if-still.most in
    elim c.if-still.branch [
      | then-still w ↦
          least-passes test size before w.measure.result after xs i x c.loop-x-test.true c.x-item.is
          w.if-still.ensures w.measure.ensures (w.most-is ∙ w.max-most.ensures) c.loop-x.invariant
      | else-still w ↦
          least_fails test size before after xs i x c.loop-x-test.true c.x-item.is
          w.if-still.ensures w.most-is c.loop-x.invariant
    ]

pub returns : goal.returns
returns g c =
    let test : Posted g.row.P.Denot → Bool =
    λ x. g.W.Term.counts c.args.term.now x.stamp.arrival x.stamp.day c.args.clock.posts c.args.clock.day in
    let size : Posted g.row.P.Denot → ℕ = λ x. g.T.Tape.dist c.args.tape.now c.args.board.now x.piece in
    let all = least-all test size c.loop-x.most c.args.posted.now c.loop-x.x-index c.loop-x-test.false c.loop-x.invariant in
    record { covers = all.0; least = all.1 }
