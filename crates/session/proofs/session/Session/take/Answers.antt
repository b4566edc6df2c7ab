use Rattle.session.proofs.Moving.{panels_moved, parts_moved}
use Rattle.session.proofs.session.Session.take.Goals as goal

pub returns-in-OfPanels-clause-moved : goal.returns-in-OfPanels-clause-moved
returns-in-OfPanels-clause-moved c =
    let call = c.take.ensures in
    rw c.in-OfPanels.is (panels_moved _ _ _ _ _ _ _ _ c.panel_ask.ensures call.took call.run call.holds)

pub returns-in-OfParts-clause-moved : goal.returns-in-OfParts-clause-moved
returns-in-OfParts-clause-moved c =
    let call = c.take-in-OfParts.ensures in
    rw c.in-OfParts.is (parts_moved _ _ _ _ _ _ _ _ c.part_ask.ensures call.took call.run call.holds)
