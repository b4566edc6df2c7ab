use Rattle.std.proofs.Common.{length, ap, ◌∙◌, zero-mul, rules}
use Rattle.picking.specs.Seen.{seen}
use Rattle.picking.proofs.Shelves.{part_room}
use Rattle.row.specs.Seen.{judged}
use Rattle.rules.specs.Calls.{lying_from}
use Rattle.rules.specs.Limits.{part_size}
use Rattle.rules.specs.Words.{first_of}
use Rattle.finding.proofs.Seeking.{seeking_here, seeking_none, seeking_on, told_here}
use Rattle.finding.proofs.walk.first_answer.Goals as goal

pub loop-j-init : goal.loop-j-init
loop-j-init g c tell test t =
    let r = c.args.radii.now in
    ap (λ n. tell (first_of test (lying_from (judged r.settings) n (seen r)))) (zero-mul (part_size (judged r.settings)))

pub first_answer_at-requires-clause-room : goal.first_answer_at-requires-clause-room
first_answer_at-requires-clause-room g c =
    let r = c.args.radii.now in
    let room = part_room c.loop-j.j (length r.rows.now) (part_size (judged r.settings)) (length r.places.now) c.loop-j-test.true r.long in
    let at = c.start.ensures in
    let same = ap (λ s. part_size (judged s)) c.lists.ensures.settings in
    search rules

pub returns-in-Some : goal.returns-in-Some
returns-in-Some g c tell test t =
    let r = c.args.radii.now in
    let here = told_here tell test r c.loop-j.j c.start.result c.lists.result c.start.ensures c.lists.ensures.settings c.lists.ensures.seen in
    seeking_here tell t.some t.none test r.settings r.rows.now r.places.now c.loop-j.j c.in-Some.answer c.loop-j-test.true
    (c.in-Some.ensures tell test t ∙ here) (c.loop-j.invariant tell test t)

pub loop-j-preserved : goal.loop-j-preserved
loop-j-preserved g c tell test t =
    let r = c.args.radii.now in
    let here = told_here tell test r c.loop-j.j c.start.result c.lists.result c.start.ensures c.lists.ensures.settings c.lists.ensures.seen in
    seeking_on tell t.some t.none test r.settings r.rows.now r.places.now c.loop-j.j c.loop-j-test.true
    (c.in_default.ensures tell test t ∙ here) (c.loop-j.invariant tell test t)

pub returns : goal.returns
returns g c tell test t =
    let r = c.args.radii.now in
    seeking_none tell t.some t.none test r.settings r.rows.now r.places.now c.loop-j.j c.loop-j-test.false (c.loop-j.invariant tell test t)
