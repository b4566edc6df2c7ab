-- Choices of centres for a list of pieces: how far they reach, and the choice farthest-first.
use Rattle.std.specs.Prelude.{ℕ, zero, suc, ◌*◌, ◌<◌, ◌≤◌, min, max, true, false, cond, List, [], ◌∷◌, ◌++◌, length, ◌==◌, nat_lt, slice_index_or}
use Rattle.std.specs.List.{ContainsAt as Has, AllByRecursion as Every}
use Rattle.cover.specs.Distances.{Distance, Metric, Covers, Spaced}

-- one to k pieces
abbrev pub Choice : {P : Type 0} → ℕ → List P → Type 0
Choice k choice = (1 ≤ length choice) × (length choice ≤ k)

-- the distance of x from the nearest of a list; 0 for an empty list
abbrev pub nearest : {P : Type 0} → Distance P → List P → P → ℕ
nearest dist [] x = 0
nearest dist (c ∷ []) x = dist c x
nearest dist (c ∷ (d ∷ ds)) x = min (dist c x) (nearest dist (d ∷ ds) x)

-- the greatest value over a list; 0 for an empty one
abbrev pub greatest : {X : Type 0} → (X → ℕ) → List X → ℕ
greatest f [] = 0
greatest f (x ∷ xs) = max (f x) (greatest f xs)

-- the earliest place of the greatest value
abbrev pub greatest_at : {X : Type 0} → (X → ℕ) → List X → ℕ
greatest_at f [] = 0
greatest_at f (x ∷ xs) = cond (nat_lt (f x) (greatest f xs)) (suc (greatest_at f xs)) 0

-- the reach of a choice over xs: the greatest distance of one of xs from the nearest chosen piece
abbrev pub reach : {P : Type 0} → Distance P → List P → List P → ℕ
reach dist choice xs = greatest (nearest dist choice) xs

-- at most n more centres after cs: each is the piece of xs farthest from its nearest centre, the earliest if
-- several are, and none is taken once that distance is 0
abbrev pub onward : {P : Type 0} → Distance P → P → List P → ℕ → List P → List P
onward dist x xs zero cs = cs
onward dist x xs (suc n) cs =
    elim (reach dist cs xs == 0) [ true ↦ cs | false ↦ onward dist x xs n (cs ++ (slice_index_or xs (greatest_at (nearest dist cs) xs) x ∷ [])) ]

-- at most k centres, farthest-first: the first of the list is the first centre
abbrev pub farthest_first : {P : Type 0} → Distance P → ℕ → List P → List P
farthest_first dist zero xs = []
farthest_first dist (suc k) [] = []
farthest_first dist (suc k) (x ∷ xs) = onward dist x (x ∷ xs) k (x ∷ [])

-- Pieces at least e apart, more than there are in a choice: the choice covers them within no less than half of e.
abbrev pub Pigeonhole : Type 0 → Type 0
Pigeonhole P =
    (dist : Distance P) → Metric dist → (e r : ℕ) (far choice : List P)
    → Spaced dist e far → length choice < length far → Covers dist r choice far → e ≤ 2 * r

-- What centres are worth that were chosen from xs: their reach is at most twice that of any k pieces.
pub record Good {P : Type 0} (dist : Distance P) (k : ℕ) (xs cs : List P) : Type 0 where
  pub some : 1 ≤ length cs
  pub few : length cs ≤ k
  pub members : Every (Has xs) cs
  pub covered : Covers dist (reach dist cs xs) cs xs
  pub best : (choice : List P) (r : ℕ) → length choice ≤ k → Covers dist r choice xs → reach dist cs xs ≤ 2 * r

-- Farthest-first is good on every list that is not empty.
abbrev pub FarthestFirst : Type 0 → Type 0
FarthestFirst P =
    (dist : Distance P) → Metric dist → (k : ℕ) (xs : List P) → 1 ≤ k → 1 ≤ length xs → Good dist k xs (farthest_first dist k xs)
