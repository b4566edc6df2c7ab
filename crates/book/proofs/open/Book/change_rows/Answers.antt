use Rattle.std.proofs.Common.{◌≡◌, ℕ, ◌*◌, ◌++◌, map, length, take, drop, ap, ◌∙◌, subst, append-nil, arith}
use Rattle.std.proofs.lemmas.List.{drop_all, length-take-le, take_all}
use Rattle.picking.proofs.Shelves.{length_seen}
use Rattle.row.specs.Seen.{judged, seen_rows}
use Rattle.row.specs.declared.settings.Settings.{Settings}
use Rattle.rules.specs.Limits.{part_size}
use Rattle.book.proofs.Turns.{Changed, turn_more}
use Rattle.book.proofs.open.Book.change_rows.Goals as goal

pub loop-j-preserved : goal.loop-j-preserved
loop-j-preserved g c =
    let b = c.args.self.now in
    let s = b.settings in
    let n = b.count in
    let j = c.loop-j.j in
    let b1 = c.loop-j.self in
    let b2 = c.change_row.new.self in
    let xs1 = c.loop-j.places in
    let xs2 = c.change_row.new.places in
    let f = g.C.Change.does c.args.change.now in
    let inv = c.loop-j.invariant in
    let there = c.loop-j-test.true in
    let few = b.few in
    let long0 = b.long in
    let long = b1.long in
    let size : length (take n b.rows) ≡ n = length-take-le n b.rows (omega arith) in
    let lv = length_seen s (take n b.rows) c.args.places.now in
    let step1 : Changed f s b1.count b1.rows xs1 b2.rows xs2 j =
    subst (λ (t : Settings). Changed f t b1.count b1.rows xs1 b2.rows xs2 j) inv.1 c.change_row.ensures.seen in
    let step2 : Changed f s n b1.rows xs1 b2.rows xs2 j =
    subst (λ (m : ℕ). Changed f s m b1.rows xs1 b2.rows xs2 j) inv.2 step1 in
    let rest = subst (λ (m : ℕ). drop m b2.rows ≡ drop m b1.rows) inv.2 c.change_row.ensures.rest in
    let past1 = subst (λ (t : Settings). drop (b1.count * part_size (judged t)) xs2 ≡ drop (b1.count * part_size (judged t)) xs1) inv.1 c.change_row.ensures.surplus in
    let past2 = subst (λ (m : ℕ). drop (m * part_size (judged s)) xs2 ≡ drop (m * part_size (judged s)) xs1) inv.2 past1 in (
      λ fits. turn_more f s n j (seen_rows s (take n b.rows) c.args.places.now) b1.rows b2.rows xs1 xs2 there (omega arith) (omega arith) fits (inv.0 fits) step2,
      c.change_row.ensures.settings ∙ inv.1,
      c.change_row.ensures.count ∙ inv.2,
      c.change_row.ensures.posts ∙ inv.3,
      c.change_row.ensures.day ∙ inv.4,
      rest ∙ inv.5,
      past2 ∙ inv.6,
    )

pub returns : goal.returns
returns g c =
    let b = c.args.self.now in
    let s = b.settings in
    let n = b.count in
    let v = seen_rows s (take n b.rows) c.args.places.now in
    let f = g.C.Change.does c.args.change.now s in
    let inv = c.loop-j.invariant in
    let past = c.loop-j-test.false in
    let few = b.few in
    let long0 = b.long in
    let size : length (take n b.rows) ≡ n = length-take-le n b.rows (omega arith) in
    let lv = length_seen s (take n b.rows) c.args.places.now in
    record {
      seen = λ fits.
          inv.0 fits
          ∙ ap (λ us. map f us ++ drop c.loop-j.j v) (take_all c.loop-j.j v (omega arith))
          ∙ ap (λ us. map f v ++ us) (drop_all c.loop-j.j v (omega arith))
          ∙ append-nil (map f v);
      settings = inv.1;
      count = inv.2;
      posts = inv.3;
      day = inv.4;
      rest = inv.5;
      surplus = inv.6;
    }
