-- Numerals.
use Rattle.std.specs.Prelude.{ℕ, ◌+◌, ◌-◌, ◌*◌, cond, ◌&&◌, List, [], ◌∷◌, drop, ℤ, pos, neg_ℤ, Some, None, Option, ◌==◌, nat_le, nat_lt, slice_index}
use Rattle.std.specs.Option.{option_map}

-- what a digit is worth, in either case, and 16 for any other byte
abbrev pub digit_of : ℕ → ℕ
digit_of b =
    cond (nat_le 48 b && nat_le b 57) (b - 48)
    (cond (nat_le 65 b && nat_le b 70) (b - 65 + 10)
    (cond (nat_le 97 b && nat_le b 102) (b - 97 + 10)
    16))

-- digits that go on from v, as long as the number is at most `most`
abbrev pub counted : ℕ → ℕ → ℕ → List ℕ → Option ℕ
counted base most v [] = Some v
counted base most v (b ∷ bs) =
    cond (nat_lt (digit_of b) base && nat_le (v * base + digit_of b) most) (counted base most (v * base + digit_of b) bs) None

-- at least one digit
abbrev pub numeral_of : ℕ → ℕ → List ℕ → Option ℕ
numeral_of base most [] = None
numeral_of base most (b ∷ bs) = counted base most 0 (b ∷ bs)

-- a whole number of 32 bits, a minus before it if it is negative
abbrev pub whole_of : List ℕ → Option ℤ
whole_of w =
    cond (slice_index w 0 == 45)
    (option_map (λ n. neg_ℤ (pos n)) (numeral_of 10 2147483648 (drop 1 w)))
    (option_map pos (numeral_of 10 2147483647 w))

-- a number of 64 bits after `0x`
abbrev pub hexadecimal_of : List ℕ → Option ℕ
hexadecimal_of w = cond (slice_index w 0 == 48 && slice_index w 1 == 120) (numeral_of 16 18446744073709551615 (drop 2 w)) None
