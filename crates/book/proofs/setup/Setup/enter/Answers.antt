use Rattle.std.proofs.Common.{◌≡◌, ◌<◌, length, take, Some, None, refl, ap, ◌∙◌, arith, length-set}
use Rattle.std.proofs.lemmas.Result.{err_from_is_err_and}
use Rattle.std.proofs.lemmas.List.{length-take-le}
use Rattle.row.specs.Seen.{judged}
use Rattle.rules.specs.Calls.{why_not_radius}
use Rattle.rules.specs.Runs.{tried}
use Rattle.book.specs.Seen.{setting_up}
use Rattle.book.proofs.Refused.{refusal_of, why_from}
use Rattle.book.proofs.Settling.{bounded_set, none_room, radius-entered, radius-refused, true_not_false}
use Rattle.book.proofs.setup.Setup.enter.Goals as goal

pub returns-in_err-may_enter : goal.returns-in_err-may_enter
returns-in_err-may_enter g c =
    let u = setting_up c.args.self.now in
    let r = c.args.radius in
    let e : why_not_radius u r ≡ Some c.in_err-may_enter.field-0.0 = why_from _ _ c.may_enter.ensures ∙ ap refusal_of c.in_err-may_enter.was in
    let rule = radius-refused u r c.in_err-may_enter.field-0.0 e in
    let p = err_from_is_err_and c.from_residual.result c.from_residual.ensures.1 in
    rw (p.1, p.2) (record { rule = rule; same = λ _. refl; run = λ dist counts es reached. tried r reached rule })

pub invariant_of-self : goal.invariant_of-self
invariant_of-self g c =
    let b = c.args.self.now in
    let low = b.some in
    let long = b.long in
    let few = b.few in
    let e : why_not_radius (setting_up b) c.args.radius ≡ None = why_from _ _ c.may_enter.ensures ∙ ap refusal_of c.in_ok-may_enter.was in
    let room = none_room (judged b.settings) (take b.count b.radii) c.args.radius e in
    let size = length-take-le b.count b.radii (omega arith) in
    let left = room.0 in
    let inside : b.count < length b.radii = omega arith in
    record {
      some = omega arith;
      few = omega arith;
      long = length-set b.radii b.count c.args.radius ∙ long;
      bounded = bounded_set b.radii b.count c.args.radius inside room.1 b.bounded;
    }

pub returns : goal.returns
returns g c =
    let b = c.args.self.now in
    let r = c.args.radius in
    let long = b.long in
    let few = b.few in
    let e : why_not_radius (setting_up b) r ≡ None = why_from _ _ c.may_enter.ensures ∙ ap refusal_of c.in_ok-may_enter.was in
    let room = none_room (judged b.settings) (take b.count b.radii) r e in
    let size = length-take-le b.count b.radii (omega arith) in
    let left = room.0 in
    let rule = radius-entered (judged b.settings) b.radii b.count r (omega arith) e in
    record { rule = rule; same = λ q. absurd (true_not_false q); run = λ dist counts es reached. tried r reached rule }
