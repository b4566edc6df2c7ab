use Rattle.std.proofs.Common.{◌≡◌, ◌*◌, Bool, length, get_or, Some, None, sym, ap, ◌∙◌, arith}
use Rattle.std.proofs.lemmas.List.{get_or-take}
use Rattle.std.specs.List.{position}
use Rattle.packed.specs.Lists.{cut}
use Rattle.packed.proofs.Packing.{length_cut}
use Rattle.rules.specs.Steps.{settle_by, within}
use Rattle.rules.specs.declared.place.Place.{Place}
use Rattle.row.specs.Edits.{takes}
use Rattle.row.specs.Radii.{seen}
use Rattle.row.proofs.Changing.{first_found, first_missing, found, missing}
use Rattle.row.proofs.radius.Radius.settle.Goals as goal

pub returns-in-Some-clause-seen : goal.returns-in-Some-clause-seen
returns-in-Some-clause-seen g c =
    let r = c.args.self.now in
    let s = r.settings in
    let n = r.row.now.attractors in
    let xs = r.part.now in
    let x = c.args.place in
    let i = c.in-Some.i in
    let v = c.index-self-i.result in
    let few = r.within.0 in
    let size = r.size in
    let test : Place g.row.P.Denot → Bool = λ y. within (g.T.Tape.dist c.args.tape.now) (2 * r.row.now.radius) y x in
    let here : Some i ≡ position test (cut 0 n xs) = rw c.attractors.ensures at c.in-Some.ensures in
    let first = found test (cut 0 n xs) i x here in
    let long = length_cut 0 n xs (omega arith) in
    let inside = first.within in
    let is : v ≡ get_or (cut 0 n xs) i v = c.index-self-i.is ∙ sym (get_or-take n xs i v (omega arith)) in
    let taken : seen c.attract.new.self ≡ takes x (get_or xs i v).arrival (seen r) = c.attract.ensures.seen in
    λ fits.
    taken
    ∙ ap (λ u. takes x u.arrival (seen r)) (sym c.index-self-i.is)
    ∙ ap (settle_by s.k x (seen r)) (sym (first_found test (cut 0 n xs) i v first is))

pub returns-in-None-clause-seen : goal.returns-in-None-clause-seen
returns-in-None-clause-seen g c =
    let r = c.args.self.now in
    let xs = r.part.now in
    let n = r.row.now.attractors in
    let x = c.args.place in
    let test : Place g.row.P.Denot → Bool = λ y. within (g.T.Tape.dist c.args.tape.now) (2 * r.row.now.radius) y x in
    let none : None ≡ position test (cut 0 n xs) = rw c.attractors.ensures at c.in-None.ensures in
    let is = ap (settle_by r.settings.k x (seen r)) (sym (first_missing test (cut 0 n xs) (missing test (cut 0 n xs) none))) in
    let same = ap (λ y. length y.representatives) is in
    λ fits. c.enrol.ensures.seen (omega arith) ∙ is
