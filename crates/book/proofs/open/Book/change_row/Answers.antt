use Rattle.std.proofs.Common.{◌≡◌, ℕ, ◌+◌, ◌*◌, ◌≤◌, length, get_or, take, set, sym, refl, ap, ◌∙◌, subst, arith, length-set}
use Rattle.std.proofs.lemmas.List.{drop-set-lt, length-take-le}
use Rattle.packed.proofs.Betweens.{between_wider}
use Rattle.picking.proofs.Shelves.{part_room}
use Rattle.packed.specs.Lists.{Between, cut}
use Rattle.picking.specs.Trials.{no_row}
use Rattle.rules.specs.Promises.{RowFits}
use Rattle.row.specs.Seen.{judged, seen_row, seen_rows}
use Rattle.rules.specs.Limits.{part_size}
use Rattle.book.proofs.Parts.{seen-set}
use Rattle.book.proofs.Steps.{bounded_row, take_row, within-row}
use Rattle.book.proofs.open.Book.change_row.Goals as goal

pub change_at-requires : goal.change_at-requires
change_at-requires g c =
    let b = c.args.self.now in
    let there = c.requires.there in
    let few = b.few in
    let w = part_size (judged b.settings) in
    record {
      room = subst (λ (n : ℕ). c.args.j * n + w ≤ length c.args.places.now) (sym c.part_size.ensures) (part_room c.args.j b.count w (length c.args.places.now) there c.requires.long);
      within = b.within c.args.j (omega arith);
      bounded = b.bounded c.args.j (omega arith);
    }

pub invariant_of-self : goal.invariant_of-self
invariant_of-self g c =
    let b = c.args.self.now in
    let there = c.requires.there in
    let few = b.few in
    let long = b.long in
    let j = c.args.j in
    let row = c.change_at.new.row in
    record {
      few = b.few;
      long = length-set b.rows j row ∙ long;
      within = within-row b.settings b.rows j row (omega arith) c.change_at.ensures.kept b.within;
      bounded = bounded_row b.rows j row (omega arith) c.change_at.ensures.radius b.bounded;
      posted = b.posted;
    }

pub returns : goal.returns
returns g c =
    let b = c.args.self.now in
    let s = b.settings in
    let n = b.count in
    let j = c.args.j in
    let w = part_size (judged s) in
    let xs = c.args.places.now in
    let ys = c.change_at.new.places in
    let row = c.change_at.new.row in
    let there = c.requires.there in
    let few = b.few in
    let long = b.long in
    let size : length (take n b.rows) ≡ n = length-take-le n b.rows (omega arith) in
    let room = part_room j n w (length xs) there c.requires.long in
    let end : j * w + w ≤ n * w = part_room j n w (n * w) there (omega arith) in
    let between : Between (j * w) (j * w + w) xs ys = subst (λ (n : ℕ). Between (j * n) (j * n + w) xs ys) c.part_size.ensures c.change_at.ensures.between in
    let f = g.C.Change.does c.args.change.now s in
    let row0 = get_or b.rows j no_row in
    let changed : RowFits (judged s) (f (seen_row s row0 (cut (j * w) w xs))) → seen_row s row (cut (j * w) w ys) ≡ f (seen_row s row0 (cut (j * w) w xs)) =
    subst (λ (n : ℕ). RowFits (judged s) (f (seen_row s row0 (cut (j * n) w xs))) → seen_row s row (cut (j * n) w ys) ≡ f (seen_row s row0 (cut (j * n) w xs)))
    c.part_size.ensures c.change_at.ensures.seen in
    record {
      seen = λ fits.
          ap (λ rs. seen_rows s rs ys) (take_row n j b.rows row)
          ∙ seen-set s (take n b.rows) j xs ys row (omega arith) between
          ∙ ap (set (seen_rows s (take n b.rows) xs) j) (changed fits);
      settings = refl;
      count = refl;
      posts = refl;
      day = refl;
      rest = drop-set-lt n b.rows j row there;
      surplus = (between_wider (j * w) (j * w + w) 0 (n * w) xs ys (omega arith) end between).after;
    }
