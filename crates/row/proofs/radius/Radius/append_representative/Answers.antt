use Rattle.std.proofs.Common.{◌+◌, arith}
use Rattle.packed.proofs.Betweens.{between_set}
use Rattle.rules.specs.Limits.{attractor_room}
use Rattle.row.specs.Seen.{firsts_at}
use Rattle.row.proofs.Changing.{cut_push}
use Rattle.row.proofs.Edited.{representatives_edited}
use Rattle.row.proofs.radius.Radius.append_representative.Goals as goal

pub returns-then-self-representative_room-clause-seen : goal.returns-then-self-representative_room-clause-seen
returns-then-self-representative_room-clause-seen g c = λ room.
    let r = c.args.self.now in
    let s = r.settings in
    let n = r.row.now.representatives in
    let xs = r.part.now in
    let x = c.args.place in
    let a = attractor_room s.k in
    let size = r.size in
    rw c.representatives_at-start.ensures
    (representatives_edited s r.row.now (n + 1) xs _ _ r.within.0
    (between_set a (firsts_at s) (a + n) xs x (omega arith) (omega arith))
    (cut_push a n xs x (omega arith)))
