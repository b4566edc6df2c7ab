-- A term that is chosen at run time obeys the laws of a term.
use Rattle.std.proofs.Common.{ℕ, ◌<◌, arith}
use Rattle.std.proofs.lemmas.Bool.Decides.{nat_tests}
use Rattle.rules.specs.Laws.{Lawful}
use Rattle.term.specs.Formulas.{by_days, by_number}
use Rattle.term.specs.Spans.{spanned}
use Rattle.term.specs.declared.span.Span.{Span}
use Rattle.term.specs.declared.span.Span.TheVariants.{Pieces, Days}

number_lawful : (n : ℕ) → 0 < n → Lawful (by_number n)
number_lawful n some = record {
  newest = λ a d. grind (arith, nat_tests);
  expired = λ a d posts day posts2 day2 h k l m e. grind (arith, nat_tests);
  newer = λ a d a2 d2 posts day h k l m e. grind (arith, nat_tests);
}

days_lawful : (n : ℕ) → 0 < n → Lawful (by_days n)
days_lawful n some = record {
  newest = λ a d. grind (arith, nat_tests);
  expired = λ a d posts day posts2 day2 h k l m e. grind (arith, nat_tests);
  newer = λ a d a2 d2 posts day h k l m e. grind (arith, nat_tests);
}

pub span_lawful : (s : Span) → Lawful (spanned s)
span_lawful (Pieces t) = number_lawful t.n.number t.n.positive
span_lawful (Days t) = days_lawful t.n.number t.n.positive
