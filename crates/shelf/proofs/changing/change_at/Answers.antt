use Rattle.std.proofs.Common.{◌≡◌, ◌≤◌, length, ap, ◌∙◌, arith, rules}
use Rattle.std.proofs.lemmas.List.{take_all}
use Rattle.std.proofs.lemmas.Slice.{overwrites}
use Rattle.packed.proofs.Packing.{cut_put_mid, past_start}
use Rattle.row.specs.Seen.{judged, seen_row}
use Rattle.rules.specs.Limits.{part_size}
use Rattle.shelf.proofs.changing.change_at.Goals as goal

pub returns : goal.returns
returns g c =
    let s = c.args.settings in
    let w = part_size (judged s) in
    let at = c.args.at in
    let ys = c.change_on.new.part in
    let room = c.requires.room in
    let inside : at ≤ length c.args.places.now = omega arith in
    let long : length ys ≡ w = search (rules, overwrites) in
    let size = c.part_size.ensures in
    let same = simp (past_start, size) at c.change_on.ensures.seen in
    record {
      seen = λ fits.
          ap (seen_row s c.change_on.new.row) (cut_put_mid at _ w c.args.places.now ys inside (omega arith) ∙ take_all w ys (omega arith))
          ∙ same fits;
      kept = c.change_on.ensures.kept;
      radius = c.change_on.ensures.radius;
      between = record { before = search (rules, overwrites); after = search (rules, overwrites) };
    }
