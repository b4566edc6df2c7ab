-- Where all pass, all are kept.
use Rattle.std.proofs.Common.{◌≡◌, Bool, true, false, cond, ◌&&◌, List, [], ◌∷◌, filter, refl, ap}
use Rattle.std.specs.List.{list_all}

pub kept_all : {X : Type 0} (test : X → Bool) (xs : List X) → true ≡ list_all test xs → xs ≡ filter test xs
kept_all test [] e = refl
kept_all test (x ∷ xs) e = go (kept_all test xs) (test x) e
  where
    go : (true ≡ list_all test xs → xs ≡ filter test xs)
        → (b : Bool) → true ≡ b && list_all test xs → x ∷ xs ≡ cond b (x ∷ filter test xs) (filter test xs)
    go rest true q = ap (λ ys. x ∷ ys) (rest q)
    go rest false q = absurd cc
