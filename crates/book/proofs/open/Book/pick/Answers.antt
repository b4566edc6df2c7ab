use Rattle.std.proofs.Common.{◌≡◌, ◌<◌, length, take, Some, None, sym, refl, ap, ◌∙◌, subst, arith}
use Rattle.std.proofs.lemmas.Result.{err_from_is_err_and}
use Rattle.cover.specs.Distances.{Metric}
use Rattle.rules.specs.Calls.{why_not_pick}
use Rattle.rules.specs.Laws.{Lawful}
use Rattle.rules.specs.Picking.{pick_from}
use Rattle.rules.specs.Runs.{picked}
use Rattle.shelf.specs.Picks.{Among, standing}
use Rattle.picking.specs.Trials.{taken_at}
use Rattle.term.specs.declared.window.Clock.{Clock}
use Rattle.book.specs.Seen.{seen}
use Rattle.book.proofs.Performed.{rows_seen}
use Rattle.book.proofs.Picked.{pick-holds, pick_made, pick_none, pick-refused, pick-room}
use Rattle.book.proofs.Refused.{refusal_of, why_from}
use Rattle.book.proofs.Sought.{live_bounded, live_long, live_within}
use Rattle.book.proofs.open.Book.pick.Goals as goal

pub returns-in_err-may_pick : goal.returns-in_err-may_pick
returns-in_err-may_pick g c =
    let xs = c.args.shelf.now.places.now in
    let b0 = c.args.self.now in
    let b = seen b0 xs in
    let as1 = c.args.answers.now in
    let ws1 = c.args.work.now in
    let dist = g.T.Tape.dist c.args.tape.now in
    let counts = g.W.Term.counts c.args.term.now in
    let e : why_not_pick b as1 ws1 ≡ Some c.in_err-may_pick.field-0.0 =
    why_from _ _ (c.may_pick.ensures xs as1 ws1 (sym c.len.ensures) refl refl) ∙ ap refusal_of c.in_err-may_pick.was in
    let rule = pick-refused dist counts b as1 ws1 c.in_err-may_pick.field-0.0 e in
    let metric : Metric dist = record {
      range = g.met.T.Tape.range c.args.tape.now;
      zero = g.met.T.Tape.zero c.args.tape.now;
      symmetric = g.met.T.Tape.symmetric c.args.tape.now;
      triangle = g.met.T.Tape.triangle c.args.tape.now;
    } in
    let law : Lawful counts = record {
      newest = g.met.W.Term.newest c.args.term.now;
      expired = g.met.W.Term.expired c.args.term.now;
      newer = g.met.W.Term.newer c.args.term.now;
    } in
    let p = err_from_is_err_and c.from_residual.result c.from_residual.ensures.1 in
    rw (p.1, p.2) (record {
      rule = rule;
      run = λ es reached. picked as1 ws1 reached rule;
      holds = λ es reached. pick-holds dist metric counts law es b as1 ws1 _ as1 (picked as1 ws1 reached rule);
    })

pub radii-radii-requires : goal.radii-radii-requires
radii-radii-requires g c =
    let as1 = c.args.answers.now in
    let ws1 = c.args.work.now in
    let xs = c.args.shelf.now.places.now in
    let b = seen c.args.self.now xs in
    let e : why_not_pick b as1 ws1 ≡ None =
    why_from _ _ (c.may_pick.ensures xs as1 ws1 (sym c.len.ensures) refl refl) ∙ ap refusal_of c.in_ok-may_pick.was in
    (pick-room b as1 ws1 e).0

pub first_passing-requires : goal.first_passing-requires
first_passing-requires g c =
    let b0 = c.args.self.now in
    let few = b0.few in
    let size = b0.long in
    live_bounded b0.count b0.rows c.radii-radii.result.rows.now few c.radii-radii.ensures.rows b0.bounded (omega arith)

pub pick_at-requires : goal.pick_at-requires
pick_at-requires g c =
    let xs = c.args.shelf.now.places.now in
    let b0 = c.args.self.now in
    let b = seen b0 xs in
    let as1 = c.args.answers.now in
    let ws1 = c.args.work.now in
    let few = b0.few in
    let size = b0.long in
    let live = take b0.count b0.rows in
    let e : why_not_pick b as1 ws1 ≡ None =
    why_from _ _ (c.may_pick.ensures xs as1 ws1 (sym c.len.ensures) refl refl) ∙ ap refusal_of c.in_ok-may_pick.was in
    let room = pick-room b as1 ws1 e in
    let j = c.in-Some.j in
    let inside : j < length live = subst (λ rows. j < length rows) c.radii-radii.ensures.rows c.in-Some.ensures.inside in
    record {
      there = inside;
      within = live_within b0.settings b0.count b0.rows live few refl b0.within (omega arith) j inside;
      bounded = live_bounded b0.count b0.rows live few refl b0.bounded (omega arith) j inside;
      long = live_long b0.settings b0.count b0.rows live xs b0.posts b0.day refl (omega arith) room.0
          (rows_seen b0.settings b0.count b0.rows xs (omega arith));
      answers = room.1;
      work = room.2;
    }

pub returns-in_default : goal.returns-in_default
returns-in_default g c =
    let xs = c.args.shelf.now.places.now in
    let b0 = c.args.self.now in
    let b = seen b0 xs in
    let as1 = c.args.answers.now in
    let ws1 = c.args.work.now in
    let dist = g.T.Tape.dist c.args.tape.now in
    let counts = g.W.Term.counts c.args.term.now in
    let e : why_not_pick b as1 ws1 ≡ None =
    why_from _ _ (c.may_pick.ensures xs as1 ws1 (sym c.len.ensures) refl refl) ∙ ap refusal_of c.in_ok-may_pick.was in
    let r = c.radii-radii.result in
    let rule = pick_none dist counts b0.settings r.settings (take b0.count b0.rows) r.rows.now b0.posts b0.day xs r.places.now as1 ws1
    c.radii-radii.ensures.settings c.radii-radii.ensures.rows c.radii-radii.ensures.places e
    (sym c.in_default.is ∙ c.first_passing.ensures.first) in
    let metric : Metric dist = record {
      range = g.met.T.Tape.range c.args.tape.now;
      zero = g.met.T.Tape.zero c.args.tape.now;
      symmetric = g.met.T.Tape.symmetric c.args.tape.now;
      triangle = g.met.T.Tape.triangle c.args.tape.now;
    } in
    let law : Lawful counts = record {
      newest = g.met.W.Term.newest c.args.term.now;
      expired = g.met.W.Term.expired c.args.term.now;
      newer = g.met.W.Term.newer c.args.term.now;
    } in
    record {
      rule = rule;
      run = λ es reached. picked as1 ws1 reached rule;
      holds = λ es reached. pick-holds dist metric counts law es b as1 ws1 _ as1 (picked as1 ws1 reached rule);
    }

pub returns : goal.returns
returns g c =
    let xs = c.args.shelf.now.places.now in
    let b0 = c.args.self.now in
    let b = seen b0 xs in
    let as1 = c.args.answers.now in
    let ws1 = c.args.work.now in
    let dist = g.T.Tape.dist c.args.tape.now in
    let counts = g.W.Term.counts c.args.term.now in
    let e : why_not_pick b as1 ws1 ≡ None =
    why_from _ _ (c.may_pick.ensures xs as1 ws1 (sym c.len.ensures) refl refl) ∙ ap refusal_of c.in_ok-may_pick.was in
    let r = c.radii-radii.result in
    let rule = pick_made dist counts b0.settings r.settings (take b0.count b0.rows) r.rows.now b0.posts b0.day xs r.places.now as1 ws1
    c.radii-radii.ensures.settings c.radii-radii.ensures.rows c.radii-radii.ensures.places e
    c.in-Some.j c.pick_at.result c.pick_at.new.answers c.pick_at.new.work (sym c.in-Some.is ∙ c.first_passing.ensures.first)
    (subst (λ (k : Clock). Among (pick_from dist counts (standing b0.settings (take b0.count b0.rows) k.posts k.day xs) (taken_at b0.settings (take b0.count b0.rows) xs (Some c.in-Some.j))) as1 ws1 c.pick_at.result c.pick_at.new.answers c.pick_at.new.work)
    c.clock.ensures c.pick_at.ensures) in
    let metric : Metric dist = record {
      range = g.met.T.Tape.range c.args.tape.now;
      zero = g.met.T.Tape.zero c.args.tape.now;
      symmetric = g.met.T.Tape.symmetric c.args.tape.now;
      triangle = g.met.T.Tape.triangle c.args.tape.now;
    } in
    let law : Lawful counts = record {
      newest = g.met.W.Term.newest c.args.term.now;
      expired = g.met.W.Term.expired c.args.term.now;
      newer = g.met.W.Term.newer c.args.term.now;
    } in
    record {
      rule = rule;
      run = λ es reached. picked as1 ws1 reached rule;
      holds = λ es reached. pick-holds dist metric counts law es b as1 ws1 _ c.pick_at.new.answers (picked as1 ws1 reached rule);
    }
