use Rattle.std.proofs.Common.{refl, arith}
use Rattle.book.proofs.Performed.{rows_seen}
use Rattle.book.proofs.Sought.{live_long, live_within}
use Rattle.book.proofs.open.Book.radii.Goals as goal

pub radii-requires : goal.radii-requires
radii-requires g c =
    let b = c.args.self.now in
    let xs = c.args.shelf.now.places.now in
    let long = b.long in
    let few = b.few in
    record {
      within = live_within b.settings b.count b.rows _ few refl b.within (omega arith);
      long = live_long b.settings b.count b.rows _ xs b.posts b.day refl (omega arith) c.requires (rows_seen b.settings b.count b.rows xs (omega arith));
    }
