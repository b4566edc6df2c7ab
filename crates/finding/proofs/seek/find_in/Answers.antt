use Rattle.std.proofs.Common.{◌≡◌, ◌+◌, eqb, position, option_map, sym, ap, ◌∙◌, rules, tests}
use Rattle.std.proofs.lemmas.Iterator.{YieldsList-from_slice}
use Rattle.std.proofs.lemmas.Iterator.Search.{position_from_yields_List}
use Rattle.finding.proofs.Seeking.{at_position}
use Rattle.finding.proofs.seek.find_in.Goals as goal

pub returns-in_err-i : goal.returns-in_err-i
returns-in_err-i g c =
    let a = c.args.arrival in
    let is : c.position.result ≡ position (λ x. eqb x.arrival a) c.args.list.now =
    position_from_yields_List (λ x. eqb x.arrival a) _ _ c.position.result c.position.ensures.ran (YieldsList-from_slice _ c.iter.ensures.rest)
    (λ x b q k. search (rules, tests)) in
    c.from_residual.ensures ∙ ap (option_map (λ i. c.args.start + i)) (sym c.in_err-i.was) ∙ ap (option_map (λ i. c.args.start + i)) is ∙ at_position a c.args.start c.args.list.now

pub returns : goal.returns
returns g c =
    let a = c.args.arrival in
    let is : c.position.result ≡ position (λ x. eqb x.arrival a) c.args.list.now =
    position_from_yields_List (λ x. eqb x.arrival a) _ _ c.position.result c.position.ensures.ran (YieldsList-from_slice _ c.iter.ensures.rest)
    (λ x b q k. search (rules, tests)) in
    ap (option_map (λ i. c.args.start + i)) (sym c.in_ok-i.was) ∙ ap (option_map (λ i. c.args.start + i)) is ∙ at_position a c.args.start c.args.list.now
