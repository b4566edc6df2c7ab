use Rattle.std.proofs.Common.{◌≡◌, ◌+◌, ◌-◌, map, length, take, ap, ◌∙◌, arith, rules}
use Rattle.std.specs.List.{list_all}
use Rattle.std.proofs.lemmas.Slice.{overwrites}
use Rattle.packed.specs.Lists.{cut, picked}
use Rattle.packed.proofs.Betweens.{between_same}
use Rattle.packed.proofs.Packing.{length_cut}
use Rattle.row.specs.Edits.{with_fine}
use Rattle.row.specs.Radii.{seen}
use Rattle.row.specs.Seen.{firsts_at, latests_at}
use Rattle.row.proofs.Edited.{fine_edited, fine_put}
use Rattle.row.proofs.Pairs.{entries-all, entries_kept, length-picked}
use Rattle.row.proofs.radius.Radius.keep_entries.Goals as goal

pub returns-then-all_of-clause-seen : goal.returns-then-all_of-clause-seen
returns-then-all_of-clause-seen g c =
    let r = c.args.self.now in
    let s = r.settings in
    let n = r.row.now.entries in
    let xs = r.part.now in
    let few = r.within.2 in
    let size = r.size in
    let end = latests_at s + n in
    let test = g.Q.Test.passes c.args.test.now in
    fine_edited s r.row.now n r.row.now.lost end xs xs _ r.within.0 r.within.1 (between_same (firsts_at s) end xs)
    (entries-all test (firsts_at s) (latests_at s) n xs (omega arith) (omega arith) (c.if-all_of.ensures ∙ ap (list_all test) c.latests.ensures))

pub returns-clause-seen : goal.returns-clause-seen
returns-clause-seen g c =
    let r = c.args.self.now in
    let s = r.settings in
    let n = r.row.now.entries in
    let xs = r.part.now in
    let few = r.within.2 in
    let size = r.size in
    let test = g.Q.Test.passes c.args.test.now in
    let bs = c.marks-stay.result in
    let start = c.firsts_at-firsts.result in
    let start2 = c.latests_at-latests.result in
    let firsts = cut (firsts_at s) n xs in
    let latests = cut (latests_at s) n xs in
    let lf : length firsts ≡ n = length_cut (firsts_at s) n xs (omega arith) in
    let ll : length latests ≡ n = length_cut (latests_at s) n xs (omega arith) in
    let marked : take (length latests) bs ≡ map test latests = rw c.latests-2.ensures at c.marks-stay.ensures in
    fine_put s r.row.now (picked bs) r.row.now.lost start ((start + n) - start) start2 ((start2 + n) - start2) c.pack-self.result c.pack-self-2.result
    xs c.pack-self.new.list c.pack-self-2.new.list
    c.firsts_at-firsts.ensures (omega arith) c.latests_at-latests.ensures (omega arith) r.within size
    (search (rules, overwrites)) (search (rules, overwrites)) (search (rules, overwrites)) (search (rules, overwrites))
    (length-picked bs firsts latests (omega arith)) c.pack-self.ensures.packed c.pack-self-2.ensures.packed
    ∙ ap (λ es. with_fine es r.row.now.lost (seen r)) (entries_kept test bs firsts latests (omega arith) marked)
