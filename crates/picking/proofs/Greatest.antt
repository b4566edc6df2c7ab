-- The greatest of a list and its earliest place.
use Rattle.std.proofs.Common.{◌≡◌, ℕ, suc, ◌+◌, ◌<◌, ◌≤◌, max, cond, ltb, List, [], ◌∷◌, ◌++◌, map, length, get_or, take, sym, refl, ap, ◌∙◌, arith}
use Rattle.std.proofs.lemmas.List.{length-take-le, take_all, take_more}
use Rattle.std.proofs.lemmas.Bool.{le-ltb, lt-ltb}
use Rattle.std.proofs.lemmas.Bool.Decides.{nat_tests}
use Rattle.cover.specs.Choices.{greatest, greatest_at}

-- one more at the end
greatest_push : {X : Type 0} (f : X → ℕ) (xs : List X) (x : X) → greatest f (xs ++ (x ∷ [])) ≡ max (greatest f xs) (f x)
greatest_push f [] x = omega arith
greatest_push f (y ∷ ys) x = omega (arith, greatest_push f ys x)

greatest_at_push : {X : Type 0} (f : X → ℕ) (xs : List X) (x : X)
    → greatest_at f (xs ++ (x ∷ [])) ≡ cond (ltb (greatest f xs) (f x)) (length xs) (greatest_at f xs)
greatest_at_push f [] x = grind (arith, nat_tests)
greatest_at_push f (y ∷ ys) x =
    let g = greatest_push f ys x in
    let h = greatest_at_push f ys x in
    grind (arith, nat_tests)

-- of the first i numbers, `most` is the greatest, and `at` its earliest place
pub record Far (ds : List ℕ) (at most i : ℕ) : Type 0 where
  pub place : at ≡ greatest_at (λ d. d) (take i ds)
  pub value : most ≡ greatest (λ d. d) (take i ds)

-- the number at i is greater
pub far_takes : (ds : List ℕ) (at most i : ℕ) → i < length ds → most < get_or ds i 0 → Far ds at most i → Far ds i (get_or ds i 0) (i + 1)
far_takes ds at most i h more f =
    let front = take i ds in
    let long : length front ≡ i = length-take-le i ds (omega arith) in
    let more' : greatest (λ d. d) front < get_or ds i 0 = omega (arith, f.value) in
    let e = take_more ds i 0 h in
    record {
      place = sym (
          ap (greatest_at (λ d. d)) e
          ∙ greatest_at_push (λ d. d) front (get_or ds i 0)
          ∙ ap (λ b. cond b (length front) (greatest_at (λ d. d) front)) (lt-ltb (greatest (λ d. d) front) (get_or ds i 0) more')
          ∙ long);
      value = sym (ap (greatest (λ d. d)) e ∙ greatest_push (λ d. d) front (get_or ds i 0) ∙ omega arith);
    }

-- it is not
pub far_keeps : (ds : List ℕ) (at most i : ℕ) → i < length ds → get_or ds i 0 ≤ most → Far ds at most i → Far ds at most (i + 1)
far_keeps ds at most i h less f =
    let front = take i ds in
    let less' : get_or ds i 0 ≤ greatest (λ d. d) front = omega (arith, f.value) in
    let e = take_more ds i 0 h in
    record {
      place =
          f.place
          ∙ sym (
          ap (greatest_at (λ d. d)) e
          ∙ greatest_at_push (λ d. d) front (get_or ds i 0)
          ∙ ap (λ b. cond b (length front) (greatest_at (λ d. d) front)) (le-ltb (greatest (λ d. d) front) (get_or ds i 0) less'));
      value = f.value ∙ sym (ap (greatest (λ d. d)) e ∙ greatest_push (λ d. d) front (get_or ds i 0) ∙ omega arith);
    }

pub far_place : (ds : List ℕ) (at most i : ℕ) → length ds ≤ i → Far ds at most i → at ≡ greatest_at (λ d. d) ds
far_place ds at most i h f = f.place ∙ ap (greatest_at (λ d. d)) (take_all i ds h)

pub far_value : (ds : List ℕ) (at most i : ℕ) → length ds ≤ i → Far ds at most i → most ≡ greatest (λ d. d) ds
far_value ds at most i h f = f.value ∙ ap (greatest (λ d. d)) (take_all i ds h)

-- of a list of values
pub greatest-map : {X : Type 0} (f : X → ℕ) (xs : List X) → greatest (λ d. d) (map f xs) ≡ greatest f xs
greatest-map f [] = refl
greatest-map f (x ∷ xs) = ap (max (f x)) (greatest-map f xs)

pub greatest_at-map : {X : Type 0} (f : X → ℕ) (xs : List X) → greatest_at (λ d. d) (map f xs) ≡ greatest_at f xs
greatest_at-map f [] = refl
greatest_at-map f (x ∷ xs) =
    ap (λ g. cond (ltb (f x) g) (suc (greatest_at (λ d. d) (map f xs))) 0) (greatest-map f xs)
    ∙ ap (λ n. cond (ltb (f x) (greatest f xs)) (suc n) 0) (greatest_at-map f xs)
