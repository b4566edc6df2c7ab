use Rattle.std.proofs.Common.{◌≡◌, ℕ, ◌≤◌, length, set, inl, inr, subst, arith, length-set}
use Rattle.rules.specs.Picking.{apart}
use Rattle.rules.specs.declared.place.Place.{Place}
use Rattle.tape.specs.Limits.{limit}
use Rattle.picking.specs.Centres.{Chosen}
use Rattle.picking.proofs.Spreading.{chosen_small, going_ends, going_more, going_start}
use Rattle.picking.proofs.centres.choose_centres.Goals as goal

pub loop-count-init : goal.loop-count-init
loop-count-init g c =
    let dist : Place g.row.P.Denot → Place g.row.P.Denot → ℕ = apart (g.T.Tape.dist c.args.tape.now) in
    going_start dist (λ x. x.arrival) c.args.k c.args.list.now c.args.answers.now c.measure_from.new.work c.farthest-at.result
    c.index-list-0.result c.requires.some c.requires.room c.requires.full c.index-list-0.is c.measure_from.ensures
    (c.farthest-at.ensures.at, c.farthest-at.ensures.distance)

pub loop-count-preserved : goal.loop-count-preserved
loop-count-preserved g c =
    let dist : Place g.row.P.Denot → Place g.row.P.Denot → ℕ = apart (g.T.Tape.dist c.args.tape.now) in
    let v : ℕ = c.index-list-0.result.arrival in
    let same = length-set c.args.answers.now 0 v in
    let room = c.requires.room in
    let long : c.args.k ≤ length (set c.args.answers.now 0 v) = omega arith in
    going_more dist (λ x. x.arrival) c.args.k c.args.list.now (set c.args.answers.now 0 v) c.loop-count.answers c.loop-count.near c.lower.new.work
    c.loop-count.count (c.loop-count.at, c.loop-count.distance) c.farthest.result c.index-list-at.result
    c.loop-count.invariant c.loop-count-test.true c.if-distance-eq0.false long c.index-list-at.is c.lower.ensures
    (c.farthest.ensures.at, c.farthest.ensures.distance)

pub returns-then-distance-eq0 : goal.returns-then-distance-eq0
returns-then-distance-eq0 g c =
    let dist : Place g.row.P.Denot → Place g.row.P.Denot → ℕ = apart (g.T.Tape.dist c.args.tape.now) in
    let chosen = going_ends dist (λ x. x.arrival) c.args.k c.args.list.now c.args.answers.now c.loop-count.answers c.loop-count.near
    c.index-list-0.result.arrival c.loop-count.count (c.loop-count.at, c.loop-count.distance) c.loop-count.invariant (inr c.if-distance-eq0.true) in
    record {
      chosen = chosen;
      small = chosen_small dist limit (λ x y. g.met.T.Tape.range c.args.tape.now x.piece y.piece) chosen;
    }

pub returns : goal.returns
returns g c =
    let dist : Place g.row.P.Denot → Place g.row.P.Denot → ℕ = apart (g.T.Tape.dist c.args.tape.now) in
    let few = c.loop-count.invariant.few in
    let past = c.loop-count-test.false in
    let all : c.loop-count.count ≡ c.args.k = omega arith in
    let chosen = going_ends dist (λ x. x.arrival) c.args.k c.args.list.now c.args.answers.now c.loop-count.answers c.loop-count.near
    c.index-list-0.result.arrival c.loop-count.count (c.loop-count.at, c.loop-count.distance) c.loop-count.invariant (inl past) in
    record {
      chosen = subst (λ n. Chosen dist (λ x. x.arrival) c.args.k c.args.list.now c.args.answers.now c.loop-count.answers n c.loop-count.distance) all chosen;
      small = chosen_small dist limit (λ x y. g.met.T.Tape.range c.args.tape.now x.piece y.piece) chosen;
    }
