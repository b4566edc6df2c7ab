use Rattle.std.proofs.Common.{◌≡◌, ◌+◌, Bool, eqb, Some, None, sym, ap, ◌∙◌, arith}
use Rattle.std.proofs.lemmas.Bool.{eqb-true}
use Rattle.std.specs.List.{position}
use Rattle.packed.specs.Lists.{cut}
use Rattle.packed.proofs.Betweens.{between_same, between_set}
use Rattle.packed.proofs.Packing.{length_cut}
use Rattle.rules.specs.Limits.{attractor_room}
use Rattle.rules.specs.Steps.{standing_for}
use Rattle.rules.specs.declared.place.Place.{Place}
use Rattle.row.specs.Seen.{firsts_at}
use Rattle.row.proofs.Changing.{change_none, change_set, cut-set, found, missing}
use Rattle.row.proofs.Edited.{representatives_edited}
use Rattle.row.proofs.radius.Radius.attract.Goals as goal

pub returns-in-Some-clause-seen : goal.returns-in-Some-clause-seen
returns-in-Some-clause-seen g c =
    let r = c.args.self.now in
    let s = r.settings in
    let n = r.row.now.representatives in
    let xs = r.part.now in
    let x = c.args.place in
    let v = c.args.attractor in
    let z = c.standing_for.result in
    let i = c.in-Some.i in
    let a = attractor_room s.k in
    let few = r.within.1 in
    let size = r.size in
    let test : Place g.row.P.Denot → Bool = λ y. eqb y.attractor v in
    let change : Place g.row.P.Denot → Place g.row.P.Denot = λ y. standing_for y.attractor x in
    let here : Some i ≡ position test (cut a n xs) = rw c.representatives.ensures at c.in-Some.ensures in
    let first = found test (cut a n xs) i x here in
    let long = length_cut a n xs (omega arith) in
    let inside = first.within in
    rw c.representatives_at-start.ensures
    (representatives_edited s r.row.now n xs _ _ r.within.0
    (between_set a (firsts_at s) (a + i) xs z (omega arith) (omega arith))
    (cut-set a n i xs z
    ∙ change_set test change z (cut a n xs) i first (λ y t. ap (λ m. standing_for m x) (eqb-true y.attractor v t) ∙ sym c.standing_for.ensures)))

pub returns-in_default-clause-seen : goal.returns-in_default-clause-seen
returns-in_default-clause-seen g c =
    let r = c.args.self.now in
    let s = r.settings in
    let n = r.row.now.representatives in
    let xs = r.part.now in
    let x = c.args.place in
    let a = attractor_room s.k in
    let test : Place g.row.P.Denot → Bool = λ y. eqb y.attractor c.args.attractor in
    let change : Place g.row.P.Denot → Place g.row.P.Denot = λ y. standing_for y.attractor x in
    let none : None ≡ position test (cut a n xs) = sym c.in_default.is ∙ rw c.representatives.ensures at c.first_of.ensures in
    representatives_edited s r.row.now n xs xs _ r.within.0 (between_same a (firsts_at s) xs)
    (change_none test change (cut a n xs) (missing test (cut a n xs) none))
