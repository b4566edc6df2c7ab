-- Joinery parts: a word of 64 bits, one for each fitting.
use Rattle.std.specs.Prelude.{ℕ, bit_xor, count_ones}

-- in how many bits two words differ
abbrev pub differing : ℕ → ℕ → ℕ
differing a b = count_ones (bit_xor a b)
