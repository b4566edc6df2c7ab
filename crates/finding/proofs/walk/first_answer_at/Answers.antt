use Rattle.std.proofs.Common.{◌+◌, map, ap, ◌∙◌, rules}
use Rattle.row.specs.Seen.{judged}
use Rattle.rules.specs.Calls.{lying}
use Rattle.rules.specs.Words.{first_of}
use Rattle.picking.specs.Seen.{listed}
use Rattle.finding.proofs.Seeking.{row_first, row_second, row_third}
use Rattle.finding.proofs.walk.first_answer_at.Goals as goal

pub ask-requires-2 : goal.ask-requires-2
ask-requires-2 g c =
    let few = c.representatives.ensures.few in
    let more = c.representatives_at.ensures in
    let room = c.requires.room in
    search (rules, c.requires.callable)

pub ask-requires-3 : goal.ask-requires-3
ask-requires-3 g c =
    let few = c.latests.ensures.few in
    let more = c.latests_at.ensures in
    let room = c.requires.room in
    search (rules, c.requires.callable)

pub returns-in-Some : goal.returns-in-Some
returns-in-Some g c tell test t =
    let l = c.args.lists.now in
    row_first tell t.some t.none test (judged l.settings) c.args.start (listed l) c.in-Some.answer
    (t.first _ _ _ (_, c.attractors.ensures.list, c.in-Some.ensures))

pub returns-in-Some-ask : goal.returns-in-Some-ask
returns-in-Some-ask g c tell test t =
    let l = c.args.lists.now in
    row_second tell t.some t.none test (judged l.settings) c.args.start (listed l) c.in-Some-ask.answer
    (t.first _ _ _ (_, c.attractors.ensures.list, c.in_default.ensures))
    (t.first _ _ _ (_, c.representatives.ensures.list, c.in-Some-ask.ensures)
    ∙ ap (λ n. tell (first_of test (lying (c.args.start + n) (listed l).representatives))) c.representatives_at.ensures)

pub returns : goal.returns
returns g c tell test t =
    let l = c.args.lists.now in
    row_third tell t.some t.none test (judged l.settings) c.args.start (listed l) c.ask-3.result
    (t.first _ _ _ (_, c.attractors.ensures.list, c.in_default.ensures))
    (t.first _ _ _ (_, c.representatives.ensures.list, c.in_default-ask.ensures)
    ∙ ap (λ n. tell (first_of test (lying (c.args.start + n) (listed l).representatives))) c.representatives_at.ensures)
    (t.first _ _ _ (_, c.latests.ensures.list, c.ask-3.ensures)
    ∙ ap (λ n. tell (first_of test (lying (c.args.start + n) (map (λ e. e.latest) (listed l).fine)))) c.latests_at.ensures)
