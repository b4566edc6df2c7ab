use Rattle.std.proofs.Common.{◌≡◌, ◌<◌, length, take, Ok, Err, sym, ap, ◌∙◌, arith, length-set, w32, SFits, to_z, of_z, rules}
use Rattle.std.proofs.lemmas.Int.{to_z-of_z}
use Rattle.script.specs.Lines.{offset_at}
use Rattle.script.proofs.Offsets.{offsets_none, offsets_more, offsets_fail}
use Rattle.script.proofs.scan.Words.offsets.Goals as goal

pub loop-offset-init : goal.loop-offset-init
loop-offset-init c = record { read = offsets_none c.args.self.now.text.now c.args.self.now.at; eight = search rules; text = search rules }

pub returns-in_err-offset : goal.returns-in_err-offset
returns-in_err-offset c =
    let e = c.in_err-offset.field-0.0 in
    let xs = c.args.self.now.text.now in
    let read : offset_at xs c.loop-offset.self.at ≡ Err e = search rules in
    let fail = offsets_fail c.loop-offset.offset-index xs c.args.self.now.at c.loop-offset.self.at (take c.loop-offset.offset-index c.loop-offset.offset-items) e
    c.loop-offset-test.true c.loop-offset.invariant.read read in
    search rules

pub loop-offset-preserved : goal.loop-offset-preserved
loop-offset-preserved c =
    let xs = c.args.self.now.text.now in
    let zs = c.loop-offset.offset-items in
    let i = c.loop-offset.offset-index in
    let z = c.in_ok-offset.field-0 in
    let fits : SFits w32 z = search rules in
    let same : to_z w32 (of_z w32 z) ≡ z = to_z-of_z w32 z fits in
    let here : i < length zs = omega arith in
    let plain : offset_at xs c.loop-offset.self.at ≡ Ok (z, c.operand.new.self.at) = search rules in
    let read : offset_at xs c.loop-offset.self.at ≡ Ok (to_z w32 (of_z w32 z), c.operand.new.self.at) = plain ∙ ap (λ x. Ok (x, c.operand.new.self.at)) (sym same) in
    record {
      read = offsets_more i xs c.args.self.now.at c.loop-offset.self.at c.operand.new.self.at zs _ here c.loop-offset.invariant.read read;
      eight = length-set zs i _ ∙ c.loop-offset.invariant.eight;
      text = search rules;
    }
