-- Farthest-first: what holds of the centres while they are chosen, and at the end.
use Rattle.std.proofs.Common.{◌≡◌, ℕ, zero, suc, ◌+◌, ◌≤◌, ◌⊎◌, List, [], ◌∷◌, ◌++◌, length, get_or, subst, inl, inr, arith}
use Rattle.std.specs.List.{ContainsAt as Has, AllByRecursion as Every}
use Rattle.std.proofs.ByRecursion.{All-weaker, All-push, all-has, has_get_or}
use Rattle.std.proofs.lemmas.List.{length_push}
use Rattle.std.proofs.lemmas.Bool.Decides.{eqb_tells}
use Rattle.cover.proofs.Nearest.{nearest-least, nearest_push, covers-reach, greatest_falls, greatest_place}
use Rattle.cover.proofs.Pigeons.{pigeons}
use Rattle.cover.specs.Choices.{FarthestFirst, Good, nearest, greatest_at, reach, onward}
use Rattle.cover.specs.Distances.{Distance, Metric, Near, Spaced}

pub spaced_less : {P : Type 0} (dist : Distance P) (d e : ℕ) → d ≤ e → (xs : List P) → Spaced dist e xs
    → Spaced dist d xs
spaced_less dist d e h [] s = tt
spaced_less dist d e h (x ∷ xs) s = (
  All-weaker (λ y. e ≤ dist x y) (λ y. d ≤ dist x y) (λ y k. omega arith) xs s.0,
  spaced_less dist d e h xs
      s.1,
)

pub spaced_push : {P : Type 0} (dist : Distance P) (e : ℕ) (xs : List P) (y : P) → Spaced dist e xs
    → Every (λ x. e ≤ dist x y) xs → Spaced dist e (xs ++ (y ∷ []))
spaced_push dist e [] y s h = (tt, tt)
spaced_push dist e (x ∷ xs) y s h =
    (All-push (λ z. e ≤ dist x z) xs y s.0 h.0, spaced_push dist e xs y s.1 h.1)

-- The centres c ∷ cs, chosen from xs so far: they are as far apart as they reach.
record Going {P : Type 0} (dist : Distance P) (xs cs : List P) : Type 0 where
  some : 1 ≤ length cs
  members : Every (Has xs) cs
  spaced : Spaced dist (reach dist cs xs) cs

module _ {P : Type 0} (dist : Distance P) (m : Metric dist) (x : P) (xs : List P) (full : 1 ≤ length xs) where
  next : List P → P
  next cs = get_or xs (greatest_at (nearest dist cs) xs) x

  next_has : (cs : List P) → Has xs (next cs)
  unfolding next
  next_has cs = has_get_or xs (greatest_at (nearest dist cs) xs) x (greatest_place (nearest dist cs) xs x full).0

  -- the farthest piece is as far from each centre as the centres reach
  next_spaced : (cs : List P) → Going dist xs cs → Spaced dist (reach dist cs xs) (cs ++ (next cs ∷ []))
  unfolding next
  next_spaced [] g = absurd (omega (arith, g.some))
  next_spaced (c ∷ cs) g =
      let e = (greatest_place (nearest dist (c ∷ cs)) xs x full).1 in
      spaced_push dist (reach dist (c ∷ cs) xs) (c ∷ cs) (next (c ∷ cs)) g.spaced
      (subst (λ n. Every (λ d. n ≤ dist d (next (c ∷ cs))) (c ∷ cs)) e (nearest-least dist c cs (next (c ∷ cs))))

  going_more : (cs : List P) → Going dist xs cs → Going dist xs (cs ++ (next cs ∷ []))
  going_more [] g = absurd (omega (arith, g.some))
  going_more (c ∷ cs) g = record {
    some = omega (arith, length_push (c ∷ cs) (next (c ∷ cs)));
    members = All-push (Has xs) (c ∷ cs) (next (c ∷ cs)) g.members (next_has (c ∷ cs));
    spaced =
        spaced_less dist _ _
        (greatest_falls (nearest dist ((c ∷ cs) ++ (next (c ∷ cs) ∷ []))) (nearest dist (c ∷ cs))
        (nearest_push dist c cs (next (c ∷ cs))) xs)
        ((c ∷ cs) ++ (next (c ∷ cs) ∷ [])) (next_spaced (c ∷ cs) g);
  }

  -- there are k centres, or all pieces are at 0 from one
  going_good : (k : ℕ) (cs : List P) → Going dist xs cs → (length cs ≡ k) ⊎ ((reach dist cs xs ≡ 0) × (length cs ≤ k))
      → Good dist k xs cs
  going_good k [] g done = absurd (omega (arith, g.some))
  going_good k (c ∷ cs) g done = record {
    some = g.some;
    few = elim done [ inl h ↦ omega arith | inr h ↦ h.1 ];
    members = g.members;
    covered = covers-reach dist c cs xs;
    best = λ choice r few cover. elim done [
      | inl h ↦
          pigeons P dist m (reach dist (c ∷ cs) xs) r ((c ∷ cs) ++ (next (c ∷ cs) ∷ [])) choice
          (next_spaced (c ∷ cs) g)
          (omega (arith, length_push (c ∷ cs) (next (c ∷ cs))))
          (All-weaker (Has xs) (Near dist r choice) (λ y h. all-has (Near dist r choice) xs y cover h)
          ((c ∷ cs) ++ (next (c ∷ cs) ∷ []))
          (All-push (Has xs) (c ∷ cs) (next (c ∷ cs)) g.members (next_has (c ∷ cs))))
      | inr h ↦ omega (arith, h.0)
    ];
  }

  onward_good : (k n : ℕ) (cs : List P) → length cs + n ≡ k → Going dist xs cs
      → Good dist k xs (onward dist x xs n cs)
  unfolding next
  onward_good k zero cs e g = going_good k cs g (inl (omega arith))
  onward_good k (suc n) cs e g =
      elim (eqb_tells (reach dist cs xs) 0) [
        | inl t ↦ rw (t.0, onward) (going_good k cs g (inr (t.1, omega arith)))
        | inr t ↦ rw (t.0, onward)
            (onward_good k n (cs ++ (next cs ∷ [])) (omega (arith, length_push cs (next cs))) (going_more cs g))
      ]

pub farthest_first_lem : (P : Type 0) → FarthestFirst P
farthest_first_lem P dist m zero xs few full = absurd (omega arith)
farthest_first_lem P dist m (suc k) [] few full = absurd (omega arith)
farthest_first_lem P dist m (suc k) (x ∷ xs) few full =
    onward_good dist m x (x ∷ xs) (omega arith) (suc k) k (x ∷ []) (omega arith)
    (record { some = omega arith; members = (has_get_or (x ∷ xs) 0 x (omega arith), tt); spaced = (tt, tt) })
