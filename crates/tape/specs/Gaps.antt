-- The greatest absolute difference obeys the laws of a distance, whatever the offsets are.
use Rattle.std.specs.Prelude.{◌≡◌, ℕ, zero, suc, ◌+◌, ◌<◌, ◌≤◌, max, List, ℤ, pos, slice_index_or, unsigned_abs}
use Rattle.std.proofs.Common.{add-one, arith}
use Rattle.std.proofs.lemmas.Int.{ints}
use Rattle.tape.specs.Hull.{gap, widest}

gap-zero : (x : ℤ) → gap x x ≡ 0
gap-zero x = omega (arith, ints)

gap_turn : (x y : ℤ) → gap x y ≡ gap y x
gap_turn x y = omega (arith, ints)

gap_through : (x y z : ℤ) → gap x z ≤ gap x y + gap y z
gap_through x y z = omega (arith, ints)

gap_small : (x y : ℤ) → unsigned_abs x ≤ 500000 → unsigned_abs y ≤ 500000 → gap x y ≤ 1000000
gap_small x y h k = omega (arith, ints)

pub widest_none : (xs ys : List ℤ) → widest 0 xs ys ≡ 0
unfolding widest
widest_none xs ys = omega arith

pub widest_more : (n : ℕ) (xs ys : List ℤ) → widest (n + 1) xs ys ≡ max (widest n xs ys) (gap (slice_index_or xs n (pos 0)) (slice_index_or ys n (pos 0)))
unfolding widest
widest_more n xs ys = rw add-one

pub widest-zero : (n : ℕ) (xs : List ℤ) → widest n xs xs ≡ 0
unfolding widest
widest-zero zero xs = omega arith
widest-zero (suc n) xs = omega (arith, widest-zero n xs, gap-zero (slice_index_or xs n (pos 0)))

pub widest_turn : (n : ℕ) (xs ys : List ℤ) → widest n xs ys ≡ widest n ys xs
unfolding widest
widest_turn zero xs ys = omega arith
widest_turn (suc n) xs ys = omega (arith, widest_turn n xs ys, gap_turn (slice_index_or xs n (pos 0)) (slice_index_or ys n (pos 0)))

pub widest_through : (n : ℕ) (xs ys zs : List ℤ) → widest n xs zs ≤ widest n xs ys + widest n ys zs
unfolding widest
widest_through zero xs ys zs = omega arith
widest_through (suc n) xs ys zs =
    omega (arith, widest_through n xs ys zs, gap_through (slice_index_or xs n (pos 0)) (slice_index_or ys n (pos 0)) (slice_index_or zs n (pos 0)))

-- checked offsets differ by no more than the greatest distance
pub widest_small : (n : ℕ) (xs ys : List ℤ)
    → ((k : ℕ) → k < n → unsigned_abs (slice_index_or xs k (pos 0)) ≤ 500000)
    → ((k : ℕ) → k < n → unsigned_abs (slice_index_or ys k (pos 0)) ≤ 500000)
    → widest n xs ys ≤ 1000000
unfolding widest
widest_small zero xs ys f g = omega arith
widest_small (suc n) xs ys f g =
    let here : gap (slice_index_or xs n (pos 0)) (slice_index_or ys n (pos 0)) ≤ 1000000 = gap_small (slice_index_or xs n (pos 0)) (slice_index_or ys n (pos 0)) (f n (omega arith)) (g n (omega arith)) in
    let rest : widest n xs ys ≤ 1000000 = widest_small n xs ys (λ k h. f k (omega arith)) (λ k h. g k (omega arith)) in
    omega arith
