-- Digits put one after another.
use Rattle.std.proofs.Common.{◌≡◌, ℕ, suc, ◌+◌, ◌-◌, ◌/◌, ◌%◌, ◌^◌, ◌<◌, ◌≤◌, true, List, [], ◌∷◌, ◌++◌, length, ℤ, pos, negsuc, nat_abs, ◌<ℤ◌, decimal, sym, refl, ap, ◌∙◌, append_assoc, arith, length-append, w32, SFits, to_z, of_z}
use Rattle.std.proofs.lemmas.Fmt.{decimal_digit, decimal_step}
use Rattle.std.proofs.lemmas.Bool.Decides.{nat_tests}
use Rattle.std.proofs.lemmas.Int.{ints, to_z-of_z}
use Rattle.std.specs.Fmt.{digit_glyph, signed_decimal}
use lib.Signed.{lt_z}
use Rattle.digits.specs.Digits.{hex_digits}

glyph_low : (d : ℕ) → d < 10 → digit_glyph true d ≡ 48 + d
glyph_low d h = grind (arith, nat_tests)

pub decimal_one : (n : ℕ) → n < 10 → decimal n ≡ digit_glyph true n ∷ []
decimal_one n h = decimal_digit n h ∙ ap (λ b. b ∷ []) (sym (glyph_low n h))

pub decimal_more : (n : ℕ) → 10 ≤ n → n < 2 ^ 64 → decimal n ≡ decimal (n / 10) ++ (digit_glyph true (n % 10) ∷ [])
decimal_more n h f =
    let low : n % 10 < 10 = omega arith in
    decimal_step n h f ∙ ap (λ b. decimal (n / 10) ++ (b ∷ [])) (sym (glyph_low (n % 10) low))

pub length_one : (n : ℕ) → n < 10 → length (decimal n) ≡ 1
length_one n h = ap length (decimal_one n h)

pub length_more : (n : ℕ) → 10 ≤ n → n < 2 ^ 64 → length (decimal n) ≡ length (decimal (n / 10)) + 1
length_more n h f = ap length (decimal_more n h f) ∙ length-append (decimal (n / 10)) (digit_glyph true (n % 10) ∷ [])

-- digits and one more, after bs
pub join : (bs xs ys all : List ℕ) (b : ℕ) → xs ≡ bs ++ ys → all ≡ ys ++ (b ∷ []) → xs ++ (b ∷ []) ≡ bs ++ all
join bs xs ys all b e f = ap (λ zs. zs ++ (b ∷ [])) e ∙ append_assoc bs ys (b ∷ []) ∙ ap (λ zs. bs ++ zs) (sym f)

pub hex_none : (n : ℕ) → hex_digits 0 n ≡ []
unfolding hex_digits
hex_none n = refl

hex_suc : (k n : ℕ) → hex_digits (suc k) n ≡ hex_digits k (n / 16) ++ (digit_glyph true (n % 16) ∷ [])
unfolding hex_digits
hex_suc k n = refl

pub hex_more : (k n : ℕ) → 0 < k → hex_digits k n ≡ hex_digits (k - 1) (n / 16) ++ (digit_glyph true (n % 16) ∷ [])
hex_more k n h =
    let e : k ≡ suc (k - 1) = omega arith in
    ap (λ m. hex_digits m n) e ∙ hex_suc (k - 1) n

-- a negative number after its minus
signed_minus : (z : ℤ) → z <ℤ pos 0 → signed_decimal z ≡ 45 ∷ decimal (nat_abs z)
signed_minus (pos n) h = let z : ⊥ = omega (arith, ints) in absurd z
signed_minus (negsuc n) h = refl

pub minus_front : (bs xs : List ℕ) (z : ℤ) (n : ℕ) → z <ℤ pos 0 → n ≡ nat_abs z → xs ≡ bs ++ (45 ∷ []) → xs ++ decimal n ≡ bs ++ signed_decimal z
minus_front bs xs z n h a e =
    ap (λ ys. ys ++ decimal n) e ∙ append_assoc bs (45 ∷ []) (decimal n)
    ∙ ap (λ m. bs ++ (45 ∷ decimal m)) a ∙ ap (λ ys. bs ++ ys) (sym (signed_minus z h))

pub minus_length : (z : ℤ) (n : ℕ) → z <ℤ pos 0 → n ≡ nat_abs z → length (signed_decimal z) ≡ length (decimal n) + 1
minus_length z n h a =
    let e : length (signed_decimal z) ≡ suc (length (decimal n)) = ap length (signed_minus z h) ∙ ap (λ m. suc (length (decimal m))) (sym a) in
    omega arith

-- the test that the code makes of its sign
pub below_zero : (z : ℤ) → SFits w32 z → lt_z (to_z w32 (of_z w32 z)) (pos 0) ≡ true → z <ℤ pos 0
below_zero z f e = let g : lt_z z (pos 0) ≡ true = ap (λ x. lt_z x (pos 0)) (sym (to_z-of_z w32 z f)) ∙ e in grind (arith, ints)

-- one text after another
pub then_text : (bs xs ys a b : List ℕ) → xs ≡ bs ++ a → ys ≡ xs ++ b → ys ≡ bs ++ (a ++ b)
then_text bs xs ys a b e f = f ∙ ap (λ zs. zs ++ b) e ∙ append_assoc bs a b
