use Rattle.std.proofs.Common.{◌≡◌, ℕ, ◌*◌, ◌≤◌, map, length, take, Some, None, sym, refl, ap, ◌∙◌, subst, arith}
use Rattle.std.proofs.lemmas.Result.{err_from_is_err_and}
use Rattle.row.specs.Seen.{judged, seen_rows}
use Rattle.rules.specs.Calls.{turned, why_not_turn}
use Rattle.rules.specs.Laws.{Lawful}
use Rattle.rules.specs.Limits.{part_size}
use Rattle.rules.specs.Runs as runs
use Rattle.rules.specs.Steps.{expire}
use Rattle.term.specs.declared.window.Clock.{Clock}
use Rattle.book.specs.Seen.{seen}
use Rattle.book.proofs.Expired.{expired_fits}
use Rattle.book.proofs.Performed.{rows_seen, seen-after, served, turn_performed, turn_refused, turn_room}
use Rattle.book.proofs.Refused.{refusal_of, why_from}
use Rattle.book.proofs.Settling.{true_not_false}
use Rattle.book.proofs.open.Book.turn.Goals as goal

pub returns-in_err-may_turn : goal.returns-in_err-may_turn
returns-in_err-may_turn g c =
    let xs = c.args.shelf.now.places.now in
    let b = seen c.args.self.now xs in
    let d = c.args.day in
    let counts = g.W.Term.counts c.args.term.now in
    let e : why_not_turn b d ≡ Some c.in_err-may_turn.field-0.0 =
    why_from _ _ (c.may_turn.ensures xs (sym c.len.ensures)) ∙ ap refusal_of c.in_err-may_turn.was in
    let rule = turn_refused counts b d c.in_err-may_turn.field-0.0 e in
    let law : Lawful counts = record {
      newest = g.met.W.Term.newest c.args.term.now;
      expired = g.met.W.Term.expired c.args.term.now;
      newer = g.met.W.Term.newer c.args.term.now;
    } in
    let p = err_from_is_err_and c.from_residual.result c.from_residual.ensures.1 in
    rw (p.1, p.2) (record {
      rule = rule;
      refused = λ _. (refl, refl);
      surplus = refl;
      run = λ dist metric es reached. runs.turned d reached rule;
      room = λ dist metric es reached. served dist metric counts law _ es b (runs.turned d reached rule);
      lent = refl;
    })

pub change_rows-requires : goal.change_rows-requires
change_rows-requires g c =
    let xs = c.args.shelf.now.places.now in
    let b = c.args.self.now in
    let few = b.few in
    let size = b.long in
    let e : why_not_turn (seen b xs) c.args.day ≡ None =
    why_from _ _ (c.may_turn.ensures xs (sym c.len.ensures)) ∙ ap refusal_of c.in_ok-may_turn.was in
    let room = turn_room (seen b xs) c.args.day e in
    let n = rows_seen b.settings b.count b.rows xs (omega arith) in
    record { long = subst (λ (m : ℕ). m * part_size (judged b.settings) ≤ length xs) n room }

pub returns : goal.returns
returns g c =
    let xs = c.args.shelf.now.places.now in
    let ys = c.change_rows.new.places in
    let b0 = c.args.self.now in
    let b1 = c.change_rows.new.self in
    let b = seen b0 xs in
    let d = c.args.day in
    let few = b0.few in
    let counts = g.W.Term.counts c.args.term.now in
    let e : why_not_turn b d ≡ None =
    why_from _ _ (c.may_turn.ensures xs (sym c.len.ensures)) ∙ ap refusal_of c.in_ok-may_turn.was in
    let clock : Clock = c.clock-clock.result in
    let fits = expired_fits counts clock.posts clock.day b0.settings b0.count b0.rows xs (λ j h. b0.within j (omega arith)) in
    let is : seen b1 ys ≡ turned counts d b =
    seen-after b0.settings b1.settings b0.count b1.count b0.posts b1.posts d b1.day (length xs) b1.rows ys (turned counts d b)
    c.change_rows.ensures.settings c.change_rows.ensures.count c.change_rows.ensures.posts c.change_rows.ensures.day
    c.change_rows.auto.places
    (ap (λ rs. record { settings = judged b0.settings; rows = rs; posts = b0.posts; day = d; places = length xs })
    (c.change_rows.ensures.seen fits ∙ ap (λ (k : Clock). map (expire counts k.posts k.day) (seen_rows b0.settings (take b0.count b0.rows) xs)) c.clock-clock.ensures)) in
    let rule = turn_performed counts b (seen b1 ys) d e is in
    let law : Lawful counts = record {
      newest = g.met.W.Term.newest c.args.term.now;
      expired = g.met.W.Term.expired c.args.term.now;
      newer = g.met.W.Term.newer c.args.term.now;
    } in
    record {
      rule = rule;
      refused = λ q. absurd (true_not_false q);
      surplus = c.change_rows.ensures.surplus;
      run = λ dist metric es reached. runs.turned d reached rule;
      room = λ dist metric es reached. served dist metric counts law _ es (seen b1 ys) (runs.turned d reached rule);
      lent = refl;
    }
