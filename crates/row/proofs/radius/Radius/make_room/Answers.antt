use Rattle.std.proofs.Common.{◌≡◌, ◌+◌, ◌-◌, length, get_or, Some, sym, ap, ◌∙◌, arith, rules}
use Rattle.std.specs.List.{remove}
use Rattle.std.proofs.lemmas.List.Edits.{length-remove}
use Rattle.std.proofs.lemmas.Slice.{overwrites}
use Rattle.packed.specs.Lists.{LeastAt, cut}
use Rattle.packed.proofs.Packing.{length_cut}
use Rattle.row.specs.Edits.{with_fine}
use Rattle.row.specs.Radii.{seen}
use Rattle.row.specs.Seen.{entries, firsts_at, latests_at}
use Rattle.row.proofs.Edited.{fine_put}
use Rattle.row.proofs.Fines.{entries-removed, length-entries}
use Rattle.row.proofs.Rooms.{get_or-cut, room_made, room_there}
use Rattle.row.proofs.radius.Radius.make_room.Goals as goal

pub returns-then-self-clause-seen : goal.returns-then-self-clause-seen
returns-then-self-clause-seen g c =
    let r = c.args.self.now in
    let s = r.settings in
    let n = r.row.now.entries in
    let xs = r.part.now in
    let size = r.size in
    let full = c.if-self.true in
    let i = c.least_of-i.result in
    let u = c.index-self-latests.result in
    let start = c.firsts_at-firsts.result in
    let start2 = c.latests_at-latests.result in
    let m = c.remove-self.result in
    let l = c.remove-self-then-self.result in
    let firsts = cut (firsts_at s) n xs in
    let latests = cut (latests_at s) n xs in
    let lf : length firsts ≡ n = length_cut (firsts_at s) n xs (omega arith) in
    let ll : length latests ≡ n = length_cut (latests_at s) n xs (omega arith) in
    let low : LeastAt latests i = rw c.latests.ensures at c.least_of-i.ensures in
    let inside = low.within in
    let here : u ≡ get_or latests i u =
    c.index-self-latests.is ∙ ap (λ j. get_or xs (j + i) u) c.latests_at-latests.ensures ∙ sym (get_or-cut (latests_at s) n i xs u (omega arith)) in
    let made = room_made s.limit firsts latests i r.row.now.lost u (omega arith) (omega arith) low here in
    let fewer : m + 1 ≡ n = c.remove-self.ensures.fewer ∙ search (rules, overwrites) in
    let fewer2 : l + 1 ≡ n = c.remove-self-then-self.ensures.fewer ∙ search (rules, overwrites) in
    let even : length (remove firsts i) ≡ length (remove latests i) =
    omega (arith, length-remove firsts i (omega arith), length-remove latests i (omega arith)) in
    fine_put s r.row.now (λ ys. remove ys i) (Some c.stamp.result) start ((start + n) - start) start2 ((start2 + n) - start2) m l
    xs c.remove-self.new.list c.remove-self-then-self.new.list
    c.firsts_at-firsts.ensures (omega arith) c.latests_at-latests.ensures (omega arith) r.within size
    (search (rules, overwrites)) (omega arith) (search (rules, overwrites)) (omega arith)
    even c.remove-self.ensures.removed c.remove-self-then-self.ensures.removed
    ∙ ap (λ es. with_fine es (Some c.stamp.result) (seen r)) (entries-removed firsts latests i (omega arith))
    ∙ ap (λ t. with_fine (remove (entries firsts latests) i) (Some t) (seen r))
    (c.stamp.ensures ∙ ap (λ y. record { arrival = y.arrival; day = y.day }) (sym c.index-self-latests.is))
    ∙ ap (λ p. with_fine p.0 p.1 (seen r)) (sym made)

pub returns-else-self-clause-seen : goal.returns-else-self-clause-seen
returns-else-self-clause-seen g c =
    let r = c.args.self.now in
    let s = r.settings in
    let n = r.row.now.entries in
    let xs = r.part.now in
    let a = firsts_at s in
    let b = latests_at s in
    let few = r.within.2 in
    let size = r.size in
    let not_full = c.if-self.false in
    let la : length (cut a n xs) ≡ n = length_cut a n xs (omega arith) in
    let lb : length (cut b n xs) ≡ n = length_cut b n xs (omega arith) in
    let le = length-entries (cut a n xs) (cut b n xs) (omega arith) in
    let there = room_there s.limit (entries (cut a n xs) (cut b n xs)) r.row.now.lost (omega arith) in
    ap (λ p. with_fine p.0 p.1 (seen r)) (sym there)
