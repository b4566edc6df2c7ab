use Rattle.std.proofs.Common.{◌≡◌, length, drop, ap, ◌∙◌, arith, length-drop, w32, w64}
use Rattle.std.specs.Int.{from_be_bytes}
use Rattle.std.proofs.lemmas.List.{take_all, take_rest}
use Rattle.command.specs.Bytes.{be32, be64, be32zs}
use Rattle.command.specs.Verbs.{width}
use Rattle.wire.proofs.Parts.{number_read, long_read, five_bytes, after_number}
use Rattle.wire.proofs.reading.command_of.Goals as goal

pub returns-in-Settings-clause-stands : goal.returns-in-Settings-clause-stands
returns-in-Settings-clause-stands c =
    let xs = c.args.operands.now in
    let long : length xs ≡ 9 = omega (arith, ap width c.in-Settings.is) in
    five_bytes xs (be32 c.from_be_bytes.result) long
    (number_read xs 5 c.from_be_bytes.result c.type_inv.operands (omega arith) (c.from_be_bytes.ensures ∙ ap (from_be_bytes w32) c.array_at.ensures))

pub returns-in-Radius-clause-stands : goal.returns-in-Radius-clause-stands
returns-in-Radius-clause-stands c =
    let xs = c.args.operands.now in
    let long : length xs ≡ 4 = omega (arith, ap width c.in-Radius.is) in
    number_read xs 0 c.from_be_bytes-in-Radius.result c.type_inv.operands (omega arith)
    (c.from_be_bytes-in-Radius.ensures ∙ ap (from_be_bytes w32) c.array_at-in-Radius.ensures)
    ∙ take_all 4 xs (omega arith)

pub returns-in-Hull-clause-stands : goal.returns-in-Hull-clause-stands
returns-in-Hull-clause-stands c =
    let xs = c.args.operands.now in
    let long : length xs ≡ 36 = omega (arith, ap width c.in-Hull.is) in
    after_number xs (be32 c.from_be_bytes-in-Hull.result) (be32zs c.offsets_of.result)
    (number_read xs 0 c.from_be_bytes-in-Hull.result c.type_inv.operands (omega arith)
    (c.from_be_bytes-in-Hull.ensures ∙ ap (from_be_bytes w32) c.array_at-in-Hull.ensures))
    (c.offsets_of.ensures ∙ take_rest xs 4)

pub returns-in-Joinery-clause-stands : goal.returns-in-Joinery-clause-stands
returns-in-Joinery-clause-stands c =
    let xs = c.args.operands.now in
    let long : length xs ≡ 12 = omega (arith, ap width c.in-Joinery.is) in
    after_number xs (be32 c.from_be_bytes-in-Joinery.result) (be64 c.from_be_bytes-in-Joinery-2.result)
    (number_read xs 0 c.from_be_bytes-in-Joinery.result c.type_inv.operands (omega arith)
    (c.from_be_bytes-in-Joinery.ensures ∙ ap (from_be_bytes w32) c.array_at-in-Joinery.ensures))
    (long_read xs 4 c.from_be_bytes-in-Joinery-2.result c.type_inv.operands (omega arith)
    (c.from_be_bytes-in-Joinery-2.ensures ∙ ap (from_be_bytes w64) c.array_at-in-Joinery-2.ensures)
    ∙ take_all 8 (drop 4 xs) (omega (arith, length-drop 4 xs)))

pub returns-in-Day-clause-stands : goal.returns-in-Day-clause-stands
returns-in-Day-clause-stands c =
    let xs = c.args.operands.now in
    let long : length xs ≡ 4 = omega (arith, ap width c.in-Day.is) in
    number_read xs 0 c.from_be_bytes-in-Day.result c.type_inv.operands (omega arith)
    (c.from_be_bytes-in-Day.ensures ∙ ap (from_be_bytes w32) c.array_at-in-Day.ensures)
    ∙ take_all 4 xs (omega arith)
