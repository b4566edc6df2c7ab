use Rattle.std.proofs.Common.{◌≡◌, ℕ, suc, ◌*◌, ◌≤◌, List, map, length, take, Some, None, Ok, sym, refl, ap, ◌∙◌, subst, add-one, arith}
use Rattle.std.proofs.lemmas.Result.{err_from_is_err_and}
use Rattle.cover.specs.Distances.{Metric}
use Rattle.row.specs.Seen.{judged, seen_rows}
use Rattle.std.specs.List.{AllByRecursion as Every}
use Rattle.rules.specs.Calls.{PostRule, posted, why_not_post}
use Rattle.rules.specs.Laws.{Lawful}
use Rattle.rules.specs.Limits.{part_size}
use Rattle.rules.specs.Promises.{Fits, RowFits}
use Rattle.rules.specs.Views as view
use Rattle.rules.specs.Words as words
use Rattle.rules.specs.Runs.{Opened, Post}
use Rattle.rules.specs.Runs as runs
use Rattle.rules.specs.Steps.{post_row}
use Rattle.book.specs.Seen.{seen}
use Rattle.book.proofs.Performed.{post_fitting, post_performed, post_refused, post_room, rows_seen, seen-after, served}
use Rattle.book.proofs.Refused.{refusal_of, why_from}
use Rattle.book.proofs.Settling.{true_not_false}
use Rattle.book.proofs.open.Book.post.Goals as goal

pub returns-in_err-may_post : goal.returns-in_err-may_post
returns-in_err-may_post g c =
    let xs = c.args.shelf.now.places.now in
    let b = seen c.args.self.now xs in
    let p = c.args.piece in
    let d = c.args.day in
    let dist = g.T.Tape.dist c.args.tape.now in
    let counts = g.W.Term.counts c.args.term.now in
    let e : why_not_post b d ≡ Some c.in_err-may_post.field-0.0 =
    why_from _ _ (c.may_post.ensures xs (sym c.len.ensures)) ∙ ap refusal_of c.in_err-may_post.was in
    let rule = post_refused dist counts b p d c.in_err-may_post.field-0.0 e in
    let metric : Metric dist = record {
      range = g.met.T.Tape.range c.args.tape.now;
      zero = g.met.T.Tape.zero c.args.tape.now;
      symmetric = g.met.T.Tape.symmetric c.args.tape.now;
      triangle = g.met.T.Tape.triangle c.args.tape.now;
    } in
    let law : Lawful counts = record {
      newest = g.met.W.Term.newest c.args.term.now;
      expired = g.met.W.Term.expired c.args.term.now;
      newer = g.met.W.Term.newer c.args.term.now;
    } in
    let q = err_from_is_err_and c.from_residual.result c.from_residual.ensures.1 in
    rw (q.1, q.2) (record {
      answer = rule.answer;
      rule = λ fits. rule;
      refused = λ _. (refl, refl);
      surplus = refl;
      run = λ es reached. runs.posted p d reached rule;
      room = λ es reached. served dist metric counts law _ es b (runs.posted p d reached rule);
      lent = refl;
    })

pub change_rows-requires : goal.change_rows-requires
change_rows-requires g c =
    let xs = c.args.shelf.now.places.now in
    let b = c.args.self.now in
    let few = b.few in
    let size = b.long in
    let e : why_not_post (seen b xs) c.args.day ≡ None =
    why_from _ _ (c.may_post.ensures xs (sym c.len.ensures)) ∙ ap refusal_of c.in_ok-may_post.was in
    let room = post_room (seen b xs) c.args.day e in
    let n = rows_seen b.settings b.count b.rows xs (omega arith) in
    record { long = subst (λ (m : ℕ). m * part_size (judged b.settings) ≤ length xs) n room }

pub returns : goal.returns
returns g c =
    let xs = c.args.shelf.now.places.now in
    let ys = c.change_rows.new.places in
    let b0 = c.args.self.now in
    let b1 = c.change_rows.new.self in
    let b = seen b0 xs in
    let p = c.args.piece in
    let d = c.args.day in
    let dist = g.T.Tape.dist c.args.tape.now in
    let counts = g.W.Term.counts c.args.term.now in
    let e : why_not_post b d ≡ None =
    why_from _ _ (c.may_post.ensures xs (sym c.len.ensures)) ∙ ap refusal_of c.in_ok-may_post.was in
    let after : ℕ → List (view.Row g.row.P.Denot) = λ n.
    map (post_row dist counts (judged b0.settings) (record { piece = p; arrival = n; day = d; attractor = 0 })) (seen_rows b0.settings (take b0.count b0.rows) xs) in
    let is : Fits (Opened (posted dist counts p d b)) → seen b1 ys ≡ posted dist counts p d b = λ fits.
    seen-after b0.settings b1.settings b0.count b1.count (suc b0.posts) b1.posts d b1.day (length xs) b1.rows ys (posted dist counts p d b)
    c.change_rows.ensures.settings c.change_rows.ensures.count (c.change_rows.ensures.posts ∙ add-one b0.posts) c.change_rows.ensures.day
    c.change_rows.auto.places
    (ap (λ rs. record { settings = judged b0.settings; rows = rs; posts = suc b0.posts; day = d; places = length xs })
    (c.change_rows.ensures.seen (subst (λ (n : ℕ). Every (RowFits (judged b0.settings)) (after n)) (sym (add-one b0.posts)) fits)
    ∙ ap after (add-one b0.posts))) in
    let rule : Fits (Opened (posted dist counts p d b)) → PostRule dist counts b p d (Ok tt) (seen b1 ys) = λ fits. post_performed dist counts b (seen b1 ys) p d e (is fits) in
    let metric : Metric dist = record {
      range = g.met.T.Tape.range c.args.tape.now;
      zero = g.met.T.Tape.zero c.args.tape.now;
      symmetric = g.met.T.Tape.symmetric c.args.tape.now;
      triangle = g.met.T.Tape.triangle c.args.tape.now;
    } in
    let law : Lawful counts = record {
      newest = g.met.W.Term.newest c.args.term.now;
      expired = g.met.W.Term.expired c.args.term.now;
      newer = g.met.W.Term.newer c.args.term.now;
    } in
    record {
      answer = ap (λ o. words.after o (Ok tt)) (sym e);
      rule = rule;
      refused = λ q. absurd (true_not_false q);
      surplus = c.change_rows.ensures.surplus;
      run = λ es reached. runs.posted p d reached (rule (post_fitting dist metric counts law es b p d e reached));
      room = λ es reached.
          served dist metric counts law _ es (seen b1 ys) (runs.posted p d reached (rule (post_fitting dist metric counts law es b p d e reached)));
      lent = refl;
    }
