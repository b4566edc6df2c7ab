use Rattle.std.proofs.Common.{◌≡◌, eqb, false, get_or, rules}
use Rattle.std.proofs.lemmas.List.{take_rest}
use Rattle.script.proofs.Narrowing.{whole_minus, whole_plain}
use Rattle.script.proofs.number.I32Operand.read.Goals as goal

pub returns-in_err-read-in-45 : goal.returns-in_err-read-in-45
returns-in_err-read-in-45 c =
    let w = c.args.word.now in
    let a : get_or w 0 0 ≡ 45 = search rules in
    let m = whole_minus w c.read.result a (simp take_rest at c.read.ensures) in
    search rules

pub returns-in_ok-read-in-45 : goal.returns-in_ok-read-in-45
returns-in_ok-read-in-45 c =
    let w = c.args.word.now in
    let a : get_or w 0 0 ≡ 45 = search rules in
    let m = whole_minus w c.read.result a (simp take_rest at c.read.ensures) in
    search rules

pub returns-in_err-read-in_default : goal.returns-in_err-read-in_default
returns-in_err-read-in_default c =
    let a : eqb (get_or c.args.word.now 0 0) 45 ≡ false = search rules in
    let m = whole_plain c.args.word.now c.read-in_default.result a c.read-in_default.ensures in
    search rules

pub returns-in_ok-read-in_default : goal.returns-in_ok-read-in_default
returns-in_ok-read-in_default c =
    let a : eqb (get_or c.args.word.now 0 0) 45 ≡ false = search rules in
    let m = whole_plain c.args.word.now c.read-in_default.result a c.read-in_default.ensures in
    search rules
