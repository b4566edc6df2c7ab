-- The least number that covers what passes a test, one element at a time.
use Rattle.std.proofs.Common.{◌≡◌, ℕ, ◌+◌, ◌<◌, ◌≤◌, max, Bool, true, false, List, length, get_or, take, sym, subst, arith}
use Rattle.std.specs.List.{AllByRecursion as Every}
use Rattle.std.proofs.ByRecursion.{All-get_or, All-more, All-take, All-weaker}
use Rattle.std.proofs.lemmas.List.{get_or-take, length-take-le, take_all, take-take}

-- each that passes is at most r
abbrev pub Within : {X : Type 0} → (X → Bool) → (X → ℕ) → ℕ → List X → Type 0
Within test size r xs = Every (λ x. test x ≡ true → size x ≤ r) xs

abbrev pub Least : {X : Type 0} → (X → Bool) → (X → ℕ) → ℕ → List X → Type 0
Least test size r xs = Within test size r xs × ((m : ℕ) → Within test size m xs → r ≤ m)

-- what covers one more covers those before
front : {X : Type 0} (test : X → Bool) (size : X → ℕ) (m : ℕ) (xs : List X) (i : ℕ)
    → Within test size m (take (i + 1) xs)
    → Within test size m (take i xs)
front test size m xs i h =
    subst (λ ys. Within test size m ys) (take-take i (i + 1) xs (omega arith))
    (All-take (λ x. test x ≡ true → size x ≤ m) i (take (i + 1) xs) h)

-- and the one more
last : {X : Type 0} (test : X → Bool) (size : X → ℕ) (m : ℕ) (xs : List X) (i : ℕ) (d : X) → i < length xs
    → Within test size m (take (i + 1) xs)
    → test (get_or xs i d) ≡ true
    → size (get_or xs i d) ≤ m
last test size m xs i d l h =
    let long : length (take (i + 1) xs) ≡ i + 1 = length-take-le (i + 1) xs (omega arith) in
    subst (λ x. test x ≡ true → size x ≤ m) (get_or-take (i + 1) xs i d (omega arith))
    (All-get_or (λ x. test x ≡ true → size x ≤ m) (take (i + 1) xs) i d (omega arith) h)

-- one more element x, which passes
pub least-passes : {X : Type 0} (test : X → Bool) (size : X → ℕ) (r m n : ℕ) (xs : List X) (i : ℕ) (x : X)
    → i < length xs
    → x ≡ get_or xs i x
    → true ≡ test x
    → m ≡ size x
    → n ≡ max m r
    → Least test size r (take i xs)
    → Least test size n (take (i + 1) xs)
least-passes test size r m n xs i x l is t k e h = (
  All-more (λ y. test y ≡ true → size y ≤ n) xs i x l
      (All-weaker (λ y. test y ≡ true → size y ≤ r) (λ y. test y ≡ true → size y ≤ n)
      (λ y f p. let low = f p in omega arith) (take i xs) h.0)
      (subst (λ y. test y ≡ true → size y ≤ n) is (λ p. omega arith)),
  λ m w.
      let low = h.1 m (front test size m xs i w) in
      let here = subst (λ y. test y ≡ true → size y ≤ m) (sym is) (last test size m xs i x l w) (sym t) in
      omega arith,
)

-- one more element x, which fails
pub least_fails : {X : Type 0} (test : X → Bool) (size : X → ℕ) (r n : ℕ) (xs : List X) (i : ℕ) (x : X) → i < length xs
    → x ≡ get_or xs i x
    → false ≡ test x
    → n ≡ r
    → Least test size r (take i xs)
    → Least test size n (take (i + 1) xs)
least_fails test size r n xs i x l is t e h = (
  All-more (λ y. test y ≡ true → size y ≤ n) xs i x l
      (All-weaker (λ y. test y ≡ true → size y ≤ r) (λ y. test y ≡ true → size y ≤ n)
      (λ y f p. let low = f p in omega arith) (take i xs) h.0)
      (subst (λ y. test y ≡ true → size y ≤ n) is (λ p. let z : ◌≡◌ {A = ℕ} 0 1 = cc in let no : ⊥ = omega arith in absurd no)),
  λ m w. let low = h.1 m (front test size m xs i w) in omega arith,
)

pub least-all : {X : Type 0} (test : X → Bool) (size : X → ℕ) (r : ℕ) (xs : List X) (i : ℕ) → length xs ≤ i
    → Least test size r (take i xs)
    → Least test size r xs
least-all test size r xs i l h = subst (λ ys. Least test size r ys) (take_all i xs l) h
