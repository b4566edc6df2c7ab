-- The number of bits in which two words differ obeys the laws of a distance.
use Rattle.std.specs.Prelude.{◌≡◌, ℕ, zero, suc, ◌+◌, ◌/◌, ◌%◌, ◌≤◌, bit_xor}
use Rattle.std.proofs.Common.{sym, ◌∙◌, ap, subst, le_refl, arith}
use Rattle.std.proofs.Math.Arith.{half_le}
use Rattle.std.proofs.lemmas.Nat.{xor_mod, xor_shr, xor_comm}
use Rattle.std.specs.Int.Bits.{xor_add_and, xor_assoc, xor_self, xor_zero_l}
use Rattle.std.specs.Int.Count.{ones, ones_step}

-- one bit and the rest
step : (x y : ℕ) → ones (bit_xor (x / 2) (y / 2)) ≤ ones (x / 2) + ones (y / 2) → ones (bit_xor x y) ≤ ones x + ones y
step x y ih =
    let low : bit_xor x y % 2 ≡ bit_xor (x % 2) (y % 2) = xor_mod x y 1 in
    let sum = xor_add_and (x % 2) (y % 2) in
    let rest : ones (bit_xor x y / 2) ≡ ones (bit_xor (x / 2) (y / 2)) = ap ones (xor_shr x y 1) in
    omega (arith, ones_step (bit_xor x y), ones_step x, ones_step y)

up_to : (n x y : ℕ) → x ≤ n → ones (bit_xor x y) ≤ ones x + ones y
up_to zero x y h = let z : x ≡ 0 = omega arith in rw z (rw (xor_zero_l y) (omega arith))
up_to (suc n) x y h = step x y (up_to n (x / 2) (y / 2) (half_le h))

ones_xor : (x y : ℕ) → ones (bit_xor x y) ≤ ones x + ones y
ones_xor x y = up_to x x y (le_refl x)

meet : (a b c : ℕ) → bit_xor (bit_xor a b) (bit_xor b c) ≡ bit_xor a c
meet a b c =
    xor_assoc a b (bit_xor b c) ∙ ap (bit_xor a) (sym (xor_assoc b b c) ∙ ap (λ x. bit_xor x c) (xor_self b) ∙ xor_zero_l c)

pub hamming_through : (a b c : ℕ) → ones (bit_xor a c) ≤ ones (bit_xor a b) + ones (bit_xor b c)
hamming_through a b c =
    subst (λ x. ones x ≤ ones (bit_xor a b) + ones (bit_xor b c)) (meet a b c) (ones_xor (bit_xor a b) (bit_xor b c))

pub hamming_zero : (a : ℕ) → ones (bit_xor a a) ≡ 0
unfolding ones
hamming_zero a = ap ones (xor_self a)

pub hamming_turn : (a b : ℕ) → ones (bit_xor a b) ≡ ones (bit_xor b a)
hamming_turn a b = ap ones (xor_comm a b)
