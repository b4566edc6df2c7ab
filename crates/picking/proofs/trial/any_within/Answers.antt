use Rattle.std.proofs.Common.{◌<◌, leb, length, get_or, ◌∙◌, rules, tests}
use Rattle.std.proofs.lemmas.Iterator.{YieldsList-from_slice}
use Rattle.std.proofs.lemmas.Iterator.Search.{any_from_yields_List}
use Rattle.std.proofs.lemmas.List.Elements.{recursion_from_All}
use Rattle.picking.proofs.Choosing.{near_any}
use Rattle.picking.proofs.trial.any_within.Goals as goal

pub returns : goal.returns
returns g c =
    let dist = g.T.Tape.dist c.args.tape.now in
    let xs = c.args.list.now in
    let x = c.args.place.now in
    let is = c.args.chosen.now in
    any_from_yields_List (λ i. leb (dist (get_or xs i x).piece x.piece) c.args.radius) _ _ c.any.result c.any.ensures.ran
    (YieldsList-from_slice _ c.iter.ensures.rest) (λ x b q k. search (rules, tests))
    ∙ near_any dist c.args.radius is xs x x (recursion_from_All (λ i. i < length xs) is c.requires)
