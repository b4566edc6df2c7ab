-- Hull panels: eight offsets, in tenths of a millimetre.
use Rattle.std.specs.Prelude.{ℕ, zero, suc, ◌<◌, ◌≤◌, max, List, ℤ, pos, ◌-ℤ◌, slice_index_or, unsigned_abs}

-- each of the eight offsets is from −500,000 to 500,000
abbrev pub InRange : List ℤ → Type 0
InRange offsets = (k : ℕ) → k < 8 → unsigned_abs (slice_index_or offsets k (pos 0)) ≤ 500000

-- the absolute difference of two offsets
abbrev pub gap : ℤ → ℤ → ℕ
gap x y = unsigned_abs (x -ℤ y)

-- the greatest absolute difference at the first n stations
unfoldable pub widest : ℕ → List ℤ → List ℤ → ℕ
widest zero xs ys = 0
widest (suc n) xs ys = max (widest n xs ys) (gap (slice_index_or xs n (pos 0)) (slice_index_or ys n (pos 0)))
