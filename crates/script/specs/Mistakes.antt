-- What is said of a line that is no command.
use Rattle.std.specs.Prelude.{ℕ, List, codes}
use Rattle.script.specs.declared.mistake.Mistake.{Mistake}
use Rattle.script.specs.declared.mistake.Mistake.TheVariants.{NoSuchCommand, Misspelt, NotANumber, TooMuch}

abbrev pub mistake_text : Mistake → List ℕ
mistake_text NoSuchCommand = codes "no such command"
mistake_text Misspelt = codes "a word is missing or misspelt"
mistake_text NotANumber = codes "a number is missing, misspelt or out of range"
mistake_text TooMuch = codes "more follows than the command has"
