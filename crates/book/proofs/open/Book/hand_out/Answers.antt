use Rattle.std.proofs.Common.{take, sym, ap, ◌∙◌}
use Rattle.row.specs.Seen.{judged, seen_rows}
use Rattle.rules.specs.Calls.{HandOutRule}
use Rattle.rules.specs.Runs as runs
use Rattle.book.specs.Seen.{seen}
use Rattle.book.proofs.Performed.{served}
use Rattle.book.proofs.Sought.{handed, ok_or_same, seek_short, seen-radii}
use Rattle.book.proofs.open.Book.hand_out.Goals as goal

pub returns-then-is_short : goal.returns-then-is_short
returns-then-is_short g c =
    let xs = c.args.shelf.now.places.now in
    let b = seen c.args.self.now xs in
    let rule = seek_short b _ (c.if-is_short.ensures xs (sym c.len.ensures)) in
    record {
      rule = rule;
      run = λ dist counts es reached. runs.handed_out c.args.at reached rule;
      room = λ dist metric counts law es reached. (served dist metric counts law _ es b (runs.handed_out c.args.at reached rule)).0;
    }

pub radii-requires : goal.radii-requires
radii-requires g c = c.if-is_short.ensures c.args.shelf.now.places.now (sym c.len.ensures)

pub returns : goal.returns
returns g c =
    let b0 = c.args.self.now in
    let xs = c.args.shelf.now.places.now in
    let b = seen b0 xs in
    let r = c.radii.result in
    let rule : HandOutRule b c.args.at c.ok_or.result =
    c.ok_or.ensures.value ∙ ok_or_same c.piece_at.result ∙ handed b (judged r.settings) (seen_rows r.settings r.rows.now r.places.now) (ap judged c.radii.ensures.settings)
    (seen-radii b0.settings r.settings (take b0.count b0.rows) r.rows.now xs r.places.now c.radii.ensures.settings c.radii.ensures.rows c.radii.ensures.places)
    (c.if-is_short.ensures xs (sym c.len.ensures)) c.args.at c.piece_at.result c.piece_at.ensures in
    record {
      rule = rule;
      run = λ dist counts es reached. runs.handed_out c.args.at reached rule;
      room = λ dist metric counts law es reached. (served dist metric counts law _ es b (runs.handed_out c.args.at reached rule)).0;
    }
