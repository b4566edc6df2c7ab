use Rattle.std.proofs.Common.{◌≡◌, ◌+◌, ◌/◌, Bool, [], ◌∷◌, ◌++◌, Some, None, sym, ap, ◌∙◌, arith}
use Rattle.std.specs.List.{position}
use Rattle.packed.specs.Lists.{cut}
use Rattle.packed.proofs.Betweens.{between_set}
use Rattle.packed.proofs.Packing.{length_cut}
use Rattle.rules.specs.Steps.{refine_by, within}
use Rattle.rules.specs.declared.place.Place.{Place}
use Rattle.row.specs.Edits.{with_fine}
use Rattle.row.specs.Radii.{seen}
use Rattle.row.specs.Seen.{firsts_at, latests_at}
use Rattle.row.proofs.Changing.{found, missing}
use Rattle.row.proofs.Edited.{fine_edited}
use Rattle.row.proofs.Rooms.{entries-taken, entry_found, entry_missing}
use Rattle.row.proofs.radius.Radius.refine.Goals as goal

pub returns-in-Some-clause-seen : goal.returns-in-Some-clause-seen
returns-in-Some-clause-seen g c =
    let r = c.args.self.now in
    let s = r.settings in
    let n = r.row.now.entries in
    let xs = r.part.now in
    let x = c.args.place in
    let a = firsts_at s in
    let b = latests_at s in
    let i = c.in-Some.i in
    let few = r.within.2 in
    let size = r.size in
    let dist = g.T.Tape.dist c.args.tape.now in
    let gap = r.row.now.radius / s.fineness in
    let test : Place g.row.P.Denot → Bool = λ y. within dist gap y x in
    let here : Some i ≡ position test (cut a n xs) = rw c.firsts.ensures at c.in-Some.ensures in
    let first = found test (cut a n xs) i x here in
    let long = length_cut a n xs (omega arith) in
    let inside = first.within in
    let entry = entry_found test a b n i xs x (omega arith) (omega arith) first in
    let end = b + n in
    rw c.latests_at.ensures
    (fine_edited s r.row.now n r.row.now.lost end xs _ _ r.within.0 r.within.1 (between_set a end (b + i) xs x (omega arith) (omega arith))
    (entries-taken test a b n i xs x (omega arith) (omega arith) first)
    ∙ ap (refine_by dist s.limit gap x (seen r)) (sym entry.1))

pub returns-in-None-clause-seen : goal.returns-in-None-clause-seen
returns-in-None-clause-seen g c =
    let r = c.args.self.now in
    let s = r.settings in
    let n = r.row.now.entries in
    let xs = r.part.now in
    let x = c.args.place in
    let a = firsts_at s in
    let b = latests_at s in
    let few = r.within.2 in
    let size = r.size in
    let dist = g.T.Tape.dist c.args.tape.now in
    let gap = r.row.now.radius / s.fineness in
    let test : Place g.row.P.Denot → Bool = λ y. within dist gap y x in
    let here : None ≡ position test (cut a n xs) = rw c.firsts.ensures at c.in-None.ensures in
    let none = entry_missing test a b n xs (omega arith) (omega arith) (missing test (cut a n xs) here) in
    c.append_entry.ensures.seen
    ∙ ap (λ y. with_fine (y.fine ++ (record { first = x; latest = x } ∷ [])) y.lost y) c.make_room.ensures.seen
    ∙ ap (refine_by dist s.limit gap x (seen r)) (sym none)
