-- Loops that write a work list.
use Rattle.std.proofs.Common.{◌≡◌, ℕ, ◌+◌, ◌<◌, ◌≤◌, min, List, [], ◌∷◌, ◌++◌, map, length, get_or, take, drop, set, sym, refl, ap, ◌∙◌, append_assoc, arith}
use Rattle.std.proofs.lemmas.List.{drop_all, drop_more, drop-set-lt, map_more, take_all, take-append-drop, take_more_set}
use Rattle.cover.specs.Choices.{nearest}
use Rattle.picking.specs.Centres.{lowered}

-- v, the value at i, is written
pub measured_more : {X : Type 0} (f : X → ℕ) (xs : List X) (ns : List ℕ) (i : ℕ) (x : X) (v : ℕ) → i < length xs → length ns ≡ length xs
    → v ≡ f (get_or xs i x) → take i ns ≡ map f (take i xs) → take (i + 1) (set ns i v) ≡ map f (take (i + 1) xs)
measured_more f xs ns i x v h l is e =
    take_more_set ns i v (omega arith)
    ∙ ap (λ zs. zs ++ (v ∷ [])) e
    ∙ ap (λ n. map f (take i xs) ++ (n ∷ [])) is
    ∙ sym (map_more f xs i x h)

pub measured_all : {X : Type 0} (f : X → ℕ) (xs : List X) (ns : List ℕ) (i : ℕ) → length xs ≤ i → length ns ≡ length xs
    → take i ns ≡ map f (take i xs) → ns ≡ map f xs
measured_all f xs ns i h l e = sym (take_all i ns (omega arith)) ∙ e ∙ ap (map f) (take_all i xs h)

-- ns began as ms: the first i are lowered, and the others are still to be
abbrev pub Lowered : {X : Type 0} → (X → ℕ) → List X → List ℕ → List ℕ → ℕ → Type 0
Lowered f xs ms ns i = take i ns ++ lowered f (drop i xs) (drop i ns) ≡ lowered f xs ms

-- the lowering has come to i, where f has the value v
lowered-step : {X : Type 0} (f : X → ℕ) (xs : List X) (ns : List ℕ) (i : ℕ) (x : X) (v : ℕ) → i < length xs → length ns ≡ length xs
    → v ≡ f (get_or xs i x) → lowered f (drop i xs) (drop i ns) ≡ min (get_or ns i 0) v ∷ lowered f (drop (i + 1) xs) (drop (i + 1) ns)
lowered-step f xs ns i x v h l is =
    ap (λ ys. lowered f ys (drop i ns)) (drop_more xs i x h)
    ∙ ap (lowered f (get_or xs i x ∷ drop (i + 1) xs)) (drop_more ns i 0 (omega arith))
    ∙ ap (λ n. min (get_or ns i 0) n ∷ lowered f (drop (i + 1) xs) (drop (i + 1) ns)) (sym is)

-- the smaller of it and v is written
pub lowered_more : {X : Type 0} (f : X → ℕ) (xs : List X) (ms ns : List ℕ) (i : ℕ) (x : X) (v w : ℕ) → i < length xs → length ns ≡ length xs
    → v ≡ f (get_or xs i x) → w ≡ min (get_or ns i 0) v → Lowered f xs ms ns i → Lowered f xs ms (set ns i w) (i + 1)
lowered_more f xs ms ns i x v w h l is least e =
    let rest = lowered f (drop (i + 1) xs) (drop (i + 1) ns) in
    ap (λ zs. zs ++ lowered f (drop (i + 1) xs) (drop (i + 1) (set ns i w))) (take_more_set ns i w (omega arith))
    ∙ ap (λ zs. (take i ns ++ (w ∷ [])) ++ lowered f (drop (i + 1) xs) zs) (drop-set-lt (i + 1) ns i w (omega arith))
    ∙ append_assoc (take i ns) (w ∷ []) rest
    ∙ ap (λ n. take i ns ++ (n ∷ rest)) least
    ∙ ap (λ zs. take i ns ++ zs) (sym (lowered-step f xs ns i x v h l is))
    ∙ e

pub lowered-all : {X : Type 0} (f : X → ℕ) (xs : List X) (ms ns : List ℕ) (i : ℕ) → length xs ≤ i → Lowered f xs ms ns i → ns ≡ lowered f xs ms
lowered-all f xs ms ns i h e =
    sym (take-append-drop i ns) ∙ ap (λ ys. take i ns ++ lowered f ys (drop i ns)) (sym (drop_all i xs h)) ∙ e

module _ {P : Type 0} (dist : P → P → ℕ) where
  -- one more centre
  nearest_more : (c : P) (cs : List P) (d x : P) → nearest dist ((c ∷ cs) ++ (d ∷ [])) x ≡ min (nearest dist (c ∷ cs) x) (dist d x)
  nearest_more c [] d x = omega arith
  nearest_more c (e ∷ es) d x = omega (arith, nearest_more e es d x)

  -- the distances from the nearest centre, lowered to those from one more
  pub lowered-nearest : (cs : List P) (d : P) (xs : List P) → 1 ≤ length cs
      → lowered (dist d) xs (map (nearest dist cs) xs) ≡ map (nearest dist (cs ++ (d ∷ []))) xs
  lowered-nearest [] d xs h = let z : ⊥ = omega arith in absurd z
  lowered-nearest (c ∷ cs) d [] h = refl
  lowered-nearest (c ∷ cs) d (x ∷ xs) h =
      ap (λ n. n ∷ lowered (dist d) xs (map (nearest dist (c ∷ cs)) xs)) (sym (nearest_more c cs d x))
      ∙ ap (λ ns. nearest dist ((c ∷ cs) ++ (d ∷ [])) x ∷ ns) (lowered-nearest (c ∷ cs) d xs h)
