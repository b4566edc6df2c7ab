-- How far a line is read.
use Rattle.std.specs.Prelude.{ℕ, ◌<◌, length, Ok, Err, Result}
use Rattle.std.specs.Str.Iter.{split_whitespace_rest}
use Rattle.measure.specs.declared.words.Words.{Words}

-- how many bytes of it are left
abbrev pub left : Words → ℕ
left w = length (split_whitespace_rest w.rest)

-- something was read, and less is left than was
abbrev pub Shortened : {X E : Type 0} → Words → Words → Result X E → Type 0
Shortened was is (Ok x) = left is < left was
Shortened was is (Err e) = Unit {0}
