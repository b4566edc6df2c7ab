use Rattle.std.proofs.Common.{◌≡◌, ℕ, List, subst, refl, inr, length, rules}
use Rattle.grade.specs.Verdicts.{Named}
use Rattle.grade.proofs.Judging.{never}
use Rattle.grade.proofs.table.CheckedTable.check.Goals as goal

pub returns-in-Some : goal.returns-in-Some
returns-in-Some c =
    let b = c.in-Some.breach in
    let long : length c.args.numbers.now ≡ 256 = search rules in
    let same : c.in_ok-numbers.numbers.now ≡ c.args.numbers.now = search rules in
    let named : Named c.args.numbers.now b = subst (λ (xs : List ℕ). Named xs b) same c.in-Some.ensures in
    record { verdict = (refl, inr (long, (b, refl, named))); exactly = never c.args.numbers.now b named }
