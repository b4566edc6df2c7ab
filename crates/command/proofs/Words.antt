-- Numbers written with the highest byte first, and read back.
use Rattle.std.proofs.Common.{◌≡◌, ℕ, zero, suc, ◌*◌, ◌/◌, ◌%◌, ◌^◌, ◌<◌, List, [], ◌∷◌, ◌++◌, length, get_or, drop, ℤ, pos, sym, refl, ap, ◌∙◌, arith, length-append, w32, w64, SFits, to_z, of_z}
use mir.Facts.{Fits-of_z}
use Rattle.std.proofs.lemmas.List.{append_assoc}
use Rattle.std.proofs.lemmas.Int.{to_z-of_z}
use Rattle.std.specs.Int.{to_be_bytes, from_be_bytes}
use Rattle.std.proofs.lemmas.Nat.{from_be_bytes-to_be_bytes_4, from_be_bytes-to_be_bytes_8}
use Rattle.command.specs.Bytes.{be32, be64, be32z, be32zs}

-- the bytes that the library's numbers have
pub be32_bytes : (n : ℕ) → to_be_bytes w32 n ≡ be32 n
unfolding be32
be32_bytes n = refl

pub be64_bytes : (n : ℕ) → to_be_bytes w64 n ≡ be64 n
unfolding be32
be64_bytes n =
    let a : n / 4294967296 / 16777216 % 256 ≡ n / 72057594037927936 % 256 = omega arith in
    let b : n / 4294967296 / 65536 % 256 ≡ n / 281474976710656 % 256 = omega arith in
    let c : n / 4294967296 / 256 % 256 ≡ n / 1099511627776 % 256 = omega arith in
    let e : n % 4294967296 / 16777216 % 256 ≡ n / 16777216 % 256 = omega arith in
    let f : n % 4294967296 / 65536 % 256 ≡ n / 65536 % 256 = omega arith in
    let g : n % 4294967296 / 256 % 256 ≡ n / 256 % 256 = omega arith in
    let h : n % 4294967296 % 256 ≡ n % 256 = omega arith in
    cc

-- the number in the first four bytes
abbrev pub num32 : List ℕ → ℕ
num32 xs = from_be_bytes w32 xs

pub num32_be32 : (n : ℕ) (t : List ℕ) → n < 2 ^ 32 → num32 (be32 n ++ t) ≡ n
unfolding be32
num32_be32 n t h = from_be_bytes-to_be_bytes_4 n h

pub drop-be32 : (n : ℕ) (t : List ℕ) → drop 4 (be32 n ++ t) ≡ t
unfolding be32
drop-be32 n t = refl

pub length-be32 : (n : ℕ) → length (be32 n) ≡ 4
unfolding be32
length-be32 n = refl

-- the first n signed numbers, of four bytes each
abbrev pub nums : ℕ → List ℕ → List ℤ
nums zero xs = []
nums (suc n) xs = to_z w32 (num32 xs) ∷ nums n (drop 4 xs)

num32_be32z : (z : ℤ) (t : List ℕ) → SFits w32 z → to_z w32 (num32 (be32z z ++ t)) ≡ z
num32_be32z z t h = ap (to_z w32) (num32_be32 (of_z w32 z) t (Fits-of_z h).fits) ∙ to_z-of_z w32 z h

pub nums_be32zs : (zs : List ℤ) (t : List ℕ) → ((i : ℕ) → i < length zs → SFits w32 (get_or zs i (pos 0))) → nums (length zs) (be32zs zs ++ t) ≡ zs
nums_be32zs [] t h = refl
nums_be32zs (z ∷ zs) t h =
    let here : SFits w32 z = h 0 (omega arith) in
    let ih = nums_be32zs zs t (λ i l. h (suc i) (omega arith)) in
    let e = append_assoc (be32z z) (be32zs zs) t in
    let first : to_z w32 (num32 ((be32z z ++ be32zs zs) ++ t)) ≡ z = ap (λ xs. to_z w32 (num32 xs)) e ∙ num32_be32z z (be32zs zs ++ t) here in
    let rest : drop 4 ((be32z z ++ be32zs zs) ++ t) ≡ be32zs zs ++ t = ap (drop 4) e ∙ drop-be32 (of_z w32 z) (be32zs zs ++ t) in
    cc

pub length-be32zs : (zs : List ℤ) → length (be32zs zs) ≡ 4 * length zs
length-be32zs [] = refl
length-be32zs (z ∷ zs) =
    let ih = length-be32zs zs in
    let e = length-append (be32z z) (be32zs zs) in
    let f = length-be32 (of_z w32 z) in
    omega arith

pub length-be64 : (n : ℕ) → length (be64 n) ≡ 8
length-be64 n =
    let e = length-append (be32 (n / 4294967296)) (be32 (n % 4294967296)) in
    let f = length-be32 (n / 4294967296) in
    let g = length-be32 (n % 4294967296) in
    omega arith

-- the number in the first eight bytes
abbrev pub num64 : List ℕ → ℕ
num64 xs = from_be_bytes w64 xs

pub num64_be64 : (n : ℕ) (t : List ℕ) → n < 2 ^ 64 → num64 (be64 n ++ t) ≡ n
num64_be64 n t h = ap (λ xs. num64 (xs ++ t)) (sym (be64_bytes n)) ∙ from_be_bytes-to_be_bytes_8 n h
