use Rattle.term.specs.declared.span.Span.{Span}
use Rattle.term.specs.declared.span.Span.TheVariants.{Pieces, Days}
use Rattle.term.specs.Formulas.{Rule, by_days, by_number}

-- by number or by days, as was chosen
abbrev pub spanned : Span → Rule
spanned (Pieces t) = by_number t.n.number
spanned (Days t) = by_days t.n.number
