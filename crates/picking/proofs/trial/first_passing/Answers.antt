use Rattle.std.proofs.Common.{[], ◌*◌, ◌<◌, leb, length, get_or, sym, ap, ◌∙◌, arith}
use Rattle.rules.specs.Picking.{choose}
use Rattle.picking.specs.Trials.{no_row}
use Rattle.picking.proofs.Choosing.{trying_ends, trying_full, trying_new}
use Rattle.picking.proofs.Takings.{passing_crowded, passing_here, passing_none, passing_spread}
use Rattle.picking.proofs.trial.first_passing.Goals as goal

pub radii-preserved-then-row-k : goal.radii-preserved-then-row-k
radii-preserved-then-row-k g c =
    let r = c.args.radii.now in
    let j = c.radii.j in
    passing_crowded (g.T.Tape.dist c.args.tape.now) r.settings r.rows.now r.places.now r.long j c.radii-test.true
    (r.within j c.radii-test.true) c.if-row-k.true c.radii.invariant

pub radii-preserved : goal.radii-preserved
radii-preserved g c =
    let dist = g.T.Tape.dist c.args.tape.now in
    let r = c.args.radii.now in
    let j = c.radii.j in
    let near = 2 * (get_or r.rows.now j no_row).radius in
    passing_spread dist r.settings r.rows.now r.places.now r.long j c.radii-test.true (r.within j c.radii-test.true)
    (ap (λ xs. leb (length (choose dist near [] xs)) r.settings.k) (sym (c.representatives-list.ensures.list ∙ ap (λ row. row.representatives) c.lists.ensures.seen))
    ∙ trying_full dist near r.settings.k c.representatives-list.result.now c.loop-i.chosen c.loop-i.count c.loop-i.i
    c.index-list-i.result c.loop-i.invariant c.loop-i-test.true c.index-list-i.is c.if-any_within.ensures
    c.if-count-k.true r.settings.few)
    c.radii.invariant

pub loop-i-preserved : goal.loop-i-preserved
loop-i-preserved g c =
    let r = c.args.radii.now in
    let few = c.loop-i.invariant.few in
    let other = c.if-count-k.false in
    let less : c.loop-i.count < r.settings.k = omega arith in
    trying_new (g.T.Tape.dist c.args.tape.now) (2 * (get_or r.rows.now c.radii.j no_row).radius) r.settings.k
    c.representatives-list.result.now c.loop-i.chosen c.loop-i.count c.loop-i.i c.index-list-i.result c.loop-i.invariant
    c.loop-i-test.true c.index-list-i.is c.if-any_within.ensures less r.settings.few

pub returns-in-radii-clause-first : goal.returns-in-radii-clause-first
returns-in-radii-clause-first g c =
    let dist = g.T.Tape.dist c.args.tape.now in
    let r = c.args.radii.now in
    let j = c.radii.j in
    let near = 2 * (get_or r.rows.now j no_row).radius in
    passing_here dist r.settings r.rows.now r.places.now r.long j c.radii-test.true (r.within j c.radii-test.true) c.if-row-k.false
    (ap (λ xs. leb (length (choose dist near [] xs)) r.settings.k) (sym (c.representatives-list.ensures.list ∙ ap (λ row. row.representatives) c.lists.ensures.seen))
    ∙ trying_ends dist near r.settings.k c.representatives-list.result.now c.loop-i.chosen c.loop-i.count c.loop-i.i
    c.loop-i.invariant c.loop-i-test.false r.settings.few)
    c.radii.invariant

pub returns-clause-first : goal.returns-clause-first
returns-clause-first g c =
    let r = c.args.radii.now in
    passing_none (g.T.Tape.dist c.args.tape.now) r.settings r.rows.now r.places.now r.long c.radii.j
    c.radii-test.false c.radii.invariant
