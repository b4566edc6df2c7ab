use Rattle.std.proofs.Common.{◌*◌, ltb, length, take, sym, ap, ◌∙◌, arith}
use Rattle.std.proofs.lemmas.List.{length-take-le}
use Rattle.picking.proofs.Shelves.{length_seen}
use Rattle.row.specs.Seen.{judged}
use Rattle.rules.specs.Limits.{part_size}
use Rattle.book.proofs.open.Book.is_short.Goals as goal

pub returns : goal.returns
returns g c xs e =
    let b = c.args.self.now in
    let few = b.few in
    let long = b.long in
    let n = length_seen b.settings (take b.count b.rows) xs ∙ length-take-le b.count b.rows (omega arith) in
    ap (λ m. ltb c.args.places (b.count * m)) c.part_size.ensures
    ∙ ap (λ m. ltb m (b.count * part_size (judged b.settings))) (sym e)
    ∙ ap (λ m. ltb (length xs) (m * part_size (judged b.settings))) (sym n)
