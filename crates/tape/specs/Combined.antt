-- Tapes over other tapes.
use Rattle.std.specs.Prelude.{ℕ, ◌+◌, min}
use Rattle.tape.specs.Limits.{limit}

-- a distance cut off at a cap
abbrev pub cut_off : ℕ → ℕ → ℕ
cut_off cap d = min d cap

-- two distances together, up to the greatest distance
abbrev pub together : ℕ → ℕ → ℕ
together x y = min (x + y) limit
