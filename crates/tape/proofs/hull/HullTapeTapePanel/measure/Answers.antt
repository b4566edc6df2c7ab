use Rattle.std.proofs.Common.{◌≡◌, arith, rules, sym, ap, ◌∙◌, length, pos, length-append, w32, SFits}
use Rattle.std.proofs.lemmas.Int.{to_z-of_z}
use Rattle.std.proofs.lemmas.Slice.Zip.{zip_turn, zip_end}
use Rattle.tape.specs.Hull.{gap, widest}
use Rattle.tape.specs.Gaps.{widest_none, widest_more, widest_small}
use Rattle.tape.proofs.hull.HullTapeTapePanel.measure.Goals as goal

pub loop-x-init : goal.loop-x-init
loop-x-init c = sym (widest_none c.args.a.now.offsets c.args.b.now.offsets)

pub loop-x-preserved : goal.loop-x-preserved
loop-x-preserved c =
    let xs = c.args.a.now.offsets in
    let ys = c.args.b.now.offsets in
    let so_far = c.loop-x.yielded in
    let turn =
    zip_turn xs ys so_far c.into_iter-x-iterator.result _ c.next.new.self _ (search rules) (search rules) c.loop-x.yielded_by _ c.in-Some.is c.next.ensures.steps in
    let x_fits : SFits w32 c.in-Some.x.now = search rules in
    let y_fits : SFits w32 c.in-Some.y.now = search rules in
    let here : c.abs_diff.result ≡ gap c.in-Some.x.now c.in-Some.y.now = simp to_z-of_z at c.abs_diff.ensures in
    let more = widest_more (length so_far) xs ys in
    rw length-append (omega (arith, rw (turn.2 (pos 0), turn.3 (pos 0)) at here))

pub returns : goal.returns
returns c =
    let xs = c.args.a.now.offsets in
    let ys = c.args.b.now.offsets in
    let end =
    zip_end xs ys c.loop-x.yielded c.into_iter-x-iterator.result _ c.next.new.self _ (search rules) (search rules) c.loop-x.yielded_by c.in-None.is c.next.ensures.steps in
    let all : c.loop-x.most ≡ widest 8 xs ys = c.loop-x.invariant ∙ ap (λ n. widest n xs ys) (omega arith) in
    record { value = omega arith; exact = λ f g. let small = widest_small 8 xs ys f g in omega arith }
