-- The nearest of a list, and the greatest value over one.
use Rattle.std.proofs.Common.{◌≡◌, ℕ, suc, ◌<◌, ◌≤◌, List, [], ◌∷◌, ◌++◌, length, get_or, inl, inr, arith}
use Rattle.std.specs.List.{AllByRecursion as Every}
use Rattle.std.proofs.lemmas.Bool.Decides.{leb_tells}
use Rattle.std.proofs.lemmas.Bool.{cases_lt}
use Rattle.cover.specs.Choices.{nearest, greatest, greatest_at, reach}
use Rattle.cover.specs.Distances.{Distance, Near, Covers}

module _ {P : Type 0} (dist : Distance P) where
  -- within r of the nearest is within r of one
  pub near_nearest : (c : P) (cs : List P) (x : P) (r : ℕ) → nearest dist (c ∷ cs) x ≤ r → Near dist r (c ∷ cs) x
  near_nearest c [] x r h = inl h
  near_nearest c (d ∷ ds) x r h = elim (cases_lt r (dist c x))
      [ inl far ↦ inr (near_nearest d ds x r (omega arith)) | inr near ↦ inl near ]

  pub nearest_near : (c : P) (cs : List P) (x : P) (r : ℕ) → Near dist r (c ∷ cs) x → nearest dist (c ∷ cs) x ≤ r
  nearest_near c [] x r h = elim h [ inl near ↦ near | inr none ↦ absurd none ]
  nearest_near c (d ∷ ds) x r h = elim h
      [ inl near ↦ omega arith | inr near ↦ omega (arith, nearest_near d ds x r near) ]

  pub nearest-least : (c : P) (cs : List P) (x : P) → Every (λ d. nearest dist (c ∷ cs) x ≤ dist d x) (c ∷ cs)
  nearest-least c [] x = (omega arith, tt)
  nearest-least c (d ∷ ds) x = (omega arith, lower (d ∷ ds) (nearest-least d ds x))
    where
      lower : (es : List P) → Every (λ e. nearest dist (d ∷ ds) x ≤ dist e x) es
          → Every (λ e. nearest dist (c ∷ (d ∷ ds)) x ≤ dist e x) es
      lower [] h = tt
      lower (e ∷ es) h = (omega (arith, h.0), lower es h.1)

  pub nearest_push : (c : P) (cs : List P) (d x : P) → nearest dist ((c ∷ cs) ++ (d ∷ [])) x ≤ nearest dist (c ∷ cs) x
  nearest_push c [] d x = omega arith
  nearest_push c (e ∷ es) d x = omega (arith, nearest_push e es d x)

  pub covers-reach : (c : P) (cs xs : List P) → Covers dist (reach dist (c ∷ cs) xs) (c ∷ cs) xs
  covers-reach c cs xs = go xs (reach dist (c ∷ cs) xs) (omega arith)
    where
      go : (ys : List P) (r : ℕ) → reach dist (c ∷ cs) ys ≤ r → Covers dist r (c ∷ cs) ys
      go [] r h = tt
      go (y ∷ ys) r h = (near_nearest c cs y r (omega arith), go ys r (omega arith))

pub greatest_falls : {X : Type 0} (f g : X → ℕ) → ((x : X) → f x ≤ g x) → (xs : List X)
    → greatest f xs ≤ greatest g xs
greatest_falls f g h [] = omega arith
greatest_falls f g h (x ∷ xs) = omega (arith, h x, greatest_falls f g h xs)

-- the earliest place of the greatest is within the list, and the greatest stands there
pub greatest_place : {X : Type 0} (f : X → ℕ) (xs : List X) (d : X) → 1 ≤ length xs
    → (greatest_at f xs < length xs) × (f (get_or xs (greatest_at f xs) d) ≡ greatest f xs)
greatest_place f [] d h = absurd (omega arith)
greatest_place f (x ∷ []) d h =
    elim (leb_tells (suc (f x)) 0)
    [ inl t ↦ absurd (omega (arith, t.1)) | inr t ↦ rw t.0 (omega arith, omega arith) ]
greatest_place f (x ∷ (y ∷ ys)) d h =
    let ih = greatest_place f (y ∷ ys) d (omega arith) in
    elim (leb_tells (suc (f x)) (greatest f (y ∷ ys))) [
      | inl t ↦ rw t.0 (omega (arith, ih.0), omega (arith, t.1, ih.1))
      | inr t ↦ rw t.0 (omega arith, omega (arith, t.1))
    ]
