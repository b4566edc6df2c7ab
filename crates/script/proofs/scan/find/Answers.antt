use Rattle.std.proofs.Common.{length, ◌∙◌, ap, rules}
use Rattle.std.proofs.lemmas.Iterator.{YieldsList-from_slice}
use Rattle.std.proofs.lemmas.Iterator.Search.{position_from_yields_List}
use Rattle.std.specs.Option.{unwrap_or}
use Rattle.script.proofs.Words.{found}
use Rattle.script.proofs.scan.find.Goals as goal

pub returns-clause-is : goal.returns-clause-is
returns-clause-is g c = λ p h.
    let xs = c.args.text.now in
    let place = position_from_yields_List p _ _ c.position.result c.position.ensures.ran (YieldsList-from_slice xs cc) (λ x b q k. search rules) in
    c.unwrap_or.ensures ∙ ap (λ o. unwrap_or o (length xs)) place ∙ found p xs
