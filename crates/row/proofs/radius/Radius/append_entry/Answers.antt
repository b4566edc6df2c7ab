use Rattle.std.proofs.Common.{◌+◌, set, arith}
use Rattle.packed.proofs.Betweens.{between_set, between_then}
use Rattle.row.specs.Seen.{firsts_at, latests_at}
use Rattle.row.proofs.Edited.{fine_edited}
use Rattle.row.proofs.Rooms.{entries_appended}
use Rattle.row.proofs.radius.Radius.append_entry.Goals as goal

pub returns-clause-seen : goal.returns-clause-seen
returns-clause-seen g c =
    let r = c.args.self.now in
    let s = r.settings in
    let n = r.row.now.entries in
    let xs = r.part.now in
    let x = c.args.place in
    let a = firsts_at s in
    let b = latests_at s in
    let end = b + n + 1 in
    let room = c.requires in
    let size = r.size in
    rw (c.firsts_at.ensures, c.latests_at.ensures)
    (fine_edited s r.row.now (n + 1) r.row.now.lost end xs _ _ r.within.0 r.within.1
    (between_then a end xs (set xs (a + n) x) _ (between_set a end (a + n) xs x (omega arith) (omega arith)) (between_set a end (b + n) (set xs (a + n) x) x (omega arith) (omega arith)))
    (entries_appended a b n xs x (omega arith) (omega arith)))
