use Rattle.std.proofs.Common.{◌<◌, length, Some, sym, ap, ◌∙◌, arith}
use Rattle.std.proofs.lemmas.Bool.{ltb-false, ltb-true}
use Rattle.rules.specs.Calls.{piece_of}
use Rattle.finding.proofs.Handing.{piece_before, piece_here, piece_past}
use Rattle.finding.proofs.hand.piece_in.Goals as goal

pub returns-in_err-checked_sub : goal.returns-in_err-checked_sub
returns-in_err-checked_sub g c =
    let less = c.in_err-checked_sub.ensures in
    let before : c.args.at < c.args.start = omega arith in
    c.from_residual.ensures ∙ sym (ap piece_of (piece_before c.args.at c.args.start c.args.list.now before))

pub returns-in_err-place : goal.returns-in_err-place
returns-in_err-place g c =
    let i = c.in_ok-checked_sub.field-0 in
    let there = c.in_ok-checked_sub.ensures in
    let past = ltb-false i (length c.args.list.now) (sym c.in_err-place.ensures.lookup.0) in
    c.from_residual-in_err-place.ensures ∙ sym (ap piece_of (piece_past c.args.at c.args.start c.args.list.now (omega arith)))

pub returns : goal.returns
returns g c =
    let i = c.in_ok-checked_sub.field-0 in
    let there = c.in_ok-checked_sub.ensures in
    let found = c.in_ok-place.ensures.lookup in
    let inside = ltb-true i (length c.args.list.now) (sym found.0) in
    let x = c.in_ok-place.place.now in
    ap (λ y. Some y.piece) found.1
    ∙ sym (ap piece_of (piece_here c.args.at c.args.start c.args.list.now i x (omega arith) inside))
