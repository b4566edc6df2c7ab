-- The centres of a list, farthest-first, and the work list that they are chosen by.
use Rattle.std.specs.Prelude.{◌≡◌, ℕ, min, List, [], ◌∷◌, ◌++◌, map, length, drop}
use Rattle.cover.specs.Choices.{farthest_first, reach}

-- each number lowered to the value of f at its place, where that is smaller
abbrev pub lowered : {X : Type 0} → (X → ℕ) → List X → List ℕ → List ℕ
lowered f [] ns = ns
lowered f (x ∷ xs) [] = []
lowered f (x ∷ xs) (n ∷ ns) = min n (f x) ∷ lowered f xs ns

-- At most k centres of xs are chosen, farthest-first: how many there are, how far they reach over xs, and the
-- answers, which were `old` before: the centres' numbers at the front, and the rest as it was.
pub record Chosen {X : Type 0} (dist : X → X → ℕ) (number : X → ℕ) (k : ℕ) (xs : List X) (old answers : List ℕ) (count distance : ℕ) : Type 0 where
  pub counted : count ≡ length (farthest_first dist k xs)
  pub reached : distance ≡ reach dist (farthest_first dist k xs) xs
  pub written : answers ≡ map number (farthest_first dist k xs) ++ drop (length (farthest_first dist k xs)) old
