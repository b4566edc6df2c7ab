-- A smaller limit on a numeral.
use Rattle.std.proofs.Common.{◌≡◌, ℕ, ◌+◌, ◌*◌, ◌<◌, ◌≤◌, Bool, true, false, cond, ◌&&◌, eqb, ltb, leb, get_or, drop, pos, neg_ℤ, List, [], ◌∷◌, Some, None, Option, lit≤, refl, sym, ap, ◌∙◌, ⊎_elim, arith}
use Rattle.std.proofs.Math.Nat.{mul-le-mul_left}
use Rattle.std.proofs.lemmas.Bool.{cases_Bool}
use Rattle.std.proofs.lemmas.Bool.Decides.{nat_tests}
use Rattle.std.specs.Option.{option_map}
use Rattle.script.specs.Numerals.{digit_of, counted, numeral_of, whole_of}

abbrev pub within : ℕ → Option ℕ → Option ℕ
within most (Some n) = cond (leb n most) (Some n) None
within most None = None

pick : (most : ℕ) (t : Bool) (r : Option ℕ) → within most r ≡ None → within most (cond t r None) ≡ None
pick most true r e = e
pick most false r e = refl

both : (most : ℕ) (t : Bool) (r s : Option ℕ) → r ≡ within most s → cond (t && true) r None ≡ within most (cond (t && true) s None)
both most true r s e = e
both most false r s e = refl

never : (t : Bool) (r : Option ℕ) → cond (t && false) r None ≡ None
never true r = refl
never false r = refl

grows : (base v d : ℕ) → 1 ≤ base → v ≤ v * base + d
grows base v d h = let k = mul-le-mul_left v h in omega arith

-- digits do not make a number smaller
over : (base small large v : ℕ) (bs : List ℕ) → 1 ≤ base → small < v → within small (counted base large v bs) ≡ None
over base small large v [] h l = grind (arith, nat_tests)
over base small large v (b ∷ bs) h l =
    let k = grows base v (digit_of b) h in
    pick small (ltb (digit_of b) base && leb (v * base + digit_of b) large) (counted base large (v * base + digit_of b) bs)
    (over base small large (v * base + digit_of b) bs h (omega arith))

within_at : (small v : ℕ) → v ≤ small → Some v ≡ within small (Some v)
within_at small v l = grind (arith, nat_tests)

counted_within : (base small large v : ℕ) (bs : List ℕ) → 1 ≤ base → small ≤ large → v ≤ small → counted base small v bs ≡ within small (counted base large v bs)
counted_within base small large v [] h k l = within_at small v l
counted_within base small large v (b ∷ bs) h k l =
    let d = digit_of b in
    let n = v * base + d in
    ⊎_elim
    (λ (e : leb n small ≡ true).
    let fits : n ≤ small = grind (arith, nat_tests) in
    let same : leb n large ≡ true = grind (arith, nat_tests) in
    rw (e, same) (both small (ltb d base) _ _ (counted_within base small large n bs h k fits)))
    (λ (e : leb n small ≡ false).
    let past : small < n = grind (arith, nat_tests) in
    ap (λ t. cond (ltb d base && t) (counted base small n bs) None) e
    ∙ never (ltb d base) (counted base small n bs)
    ∙ sym (pick small (ltb d base && leb n large) (counted base large n bs) (over base small large n bs h past)))
    (cases_Bool (leb n small))

pub numeral_within : (base small large : ℕ) (bs : List ℕ) → 1 ≤ base → small ≤ large → numeral_of base small bs ≡ within small (numeral_of base large bs)
numeral_within base small large [] h k = refl
numeral_within base small large (b ∷ bs) h k = counted_within base small large 0 (b ∷ bs) h k (omega arith)

-- a number of 32 bits is one of 64 that is below 2 ^ 32
pub to_32_bits : (bs : List ℕ) → numeral_of 10 4294967295 bs ≡ within 4294967295 (numeral_of 10 18446744073709551615 bs)
to_32_bits bs = numeral_within 10 4294967295 18446744073709551615 bs (lit≤ tt) (lit≤ tt)

-- a number of eight bits is one of 32 that is below 2 ^ 8
pub to_8_bits : (bs : List ℕ) → numeral_of 10 255 bs ≡ within 255 (numeral_of 10 4294967295 bs)
to_8_bits bs = numeral_within 10 255 4294967295 bs (lit≤ tt) (lit≤ tt)

-- a whole number, by the 32 bits that follow its minus, or that it has
pub whole_minus : (w : List ℕ) (r : Option ℕ) → get_or w 0 0 ≡ 45 → r ≡ numeral_of 10 4294967295 (drop 1 w)
    → whole_of w ≡ option_map (λ n. neg_ℤ (pos n)) (within 2147483648 r)
whole_minus w r a e =
    let t : eqb (get_or w 0 0) 45 ≡ true = rw a in
    ap (λ c. cond c (option_map (λ n. neg_ℤ (pos n)) (numeral_of 10 2147483648 (drop 1 w))) (option_map pos (numeral_of 10 2147483647 w))) t
    ∙ ap (option_map (λ n. neg_ℤ (pos n))) (numeral_within 10 2147483648 4294967295 (drop 1 w) (lit≤ tt) (lit≤ tt) ∙ ap (within 2147483648) (sym e))

pub whole_plain : (w : List ℕ) (r : Option ℕ) → eqb (get_or w 0 0) 45 ≡ false → r ≡ numeral_of 10 4294967295 w
    → whole_of w ≡ option_map pos (within 2147483647 r)
whole_plain w r t e =
    ap (λ c. cond c (option_map (λ n. neg_ℤ (pos n)) (numeral_of 10 2147483648 (drop 1 w))) (option_map pos (numeral_of 10 2147483647 w))) t
    ∙ ap (option_map pos) (numeral_within 10 2147483647 4294967295 w (lit≤ tt) (lit≤ tt) ∙ ap (within 2147483647) (sym e))
