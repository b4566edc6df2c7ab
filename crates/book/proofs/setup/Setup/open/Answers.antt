use Rattle.std.proofs.Common.{◌≡◌, ℕ, ◌<◌, length, get_or, sym, ap, ◌∙◌, rules, arith}
use Rattle.std.proofs.lemmas.List.{length-map}
use Rattle.rules.specs.Runs.{opened}
use Rattle.book.specs.Rows.{empty_row}
use Rattle.picking.specs.Trials.{no_row}
use Rattle.book.proofs.Settling.{book-opened, rows-mapped, rows_bounded, rows-within}
use Rattle.book.proofs.setup.Setup.open.Goals as goal

pub invariant_of-result : goal.invariant_of-result
invariant_of-result g c =
    let u = c.args.self in
    let long = u.long in
    let each : (i : ℕ) → i < length u.radii → get_or c.map.result i no_row ≡ empty_row (get_or u.radii i 0) = λ i h.
    let call = (c.map.ensures.items.at i 0 no_row (omega arith)).2 in
    search rules in
    let e = rows-mapped u.radii c.map.result (c.map.ensures.items.long ∙ sym u.long) each in
    record {
      few = u.few;
      long = ap length e ∙ length-map u.radii empty_row ∙ u.long;
      within = rows-within u.settings u.radii c.map.result e;
      bounded = rows_bounded u.radii c.map.result e u.bounded;
      posted = omega arith;
    }

pub returns : goal.returns
returns g c =
    let u = c.args.self in
    let long = u.long in
    let each : (i : ℕ) → i < length u.radii → get_or c.map.result i no_row ≡ empty_row (get_or u.radii i 0) = λ i h.
    let call = (c.map.ensures.items.at i 0 no_row (omega arith)).2 in
    search rules in
    let e = rows-mapped u.radii c.map.result (c.map.ensures.items.long ∙ sym u.long) each in
    record {
      rule = λ places. book-opened u.settings u.count u.radii c.map.result places e;
      run = λ dist counts es places reached.
          opened (length places) reached (book-opened u.settings u.count u.radii c.map.result places e);
    }
