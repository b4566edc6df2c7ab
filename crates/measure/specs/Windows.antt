use Rattle.term.specs.Formulas.{Rule, both, either}
use Rattle.term.specs.Spans.{spanned}
use Rattle.measure.specs.declared.window.Window.{Window}
use Rattle.measure.specs.declared.window.Window.TheVariants.{One, Both, Either}

-- the term that a line named
abbrev pub windowed : Window → Rule
windowed (One t) = spanned t
windowed (Both t) = both (spanned t.first) (spanned t.second)
windowed (Either t) = either (spanned t.first) (spanned t.second)
