use Rattle.std.proofs.Common.{rules}
use Rattle.grade.proofs.Judging.{judged}
use Rattle.grade.proofs.flaw.first_flaw.Goals as goal

pub returns : goal.returns
returns c = judged c.args.numbers.now c.first_entry.result c.or_else.result c.first_entry.ensures (search rules)
