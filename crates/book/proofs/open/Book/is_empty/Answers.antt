use Rattle.std.proofs.Common.{sym, arith}
use Rattle.book.proofs.Answering.{first_empty}
use Rattle.book.proofs.Performed.{rows_seen}
use Rattle.book.proofs.Sought.{not_short}
use Rattle.book.proofs.open.Book.is_empty.Goals as goal

pub returns-else-self-eq0 : goal.returns-else-self-eq0
returns-else-self-eq0 g c xs q =
    let b = c.args.self.now in
    let few = b.few in
    let long = b.long in
    let some = c.if-self-eq0.false in
    sym (first_empty b.settings b.count b.rows xs (omega arith) (omega arith)
    (not_short b.settings b.count b.rows xs b.posts b.day q (rows_seen b.settings b.count b.rows xs (omega arith)))
    (b.within 0 (omega arith)))
