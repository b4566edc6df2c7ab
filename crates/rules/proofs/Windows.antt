-- The pieces that count, as a list and one by one; and choices of pieces among places.
use Rattle.std.proofs.Common.{◌≡◌, ℕ, suc, ◌<◌, ◌≤◌, Bool, true, false, cond, List, [], ◌∷◌, map, length, Some, None, Option, sym, refl, ap, ◌∙◌, subst, inl, inr, arith}
use Rattle.std.specs.List.{AllByRecursion as Every}
use Rattle.std.proofs.ByRecursion.{All-weaker}
use Rattle.term.specs.Formulas.{Rule}
use Rattle.cover.specs.Distances.{Distance, Metric, Near, Covers}
use Rattle.rules.proofs.Sound.{Living}
use Rattle.rules.specs.Picking.{apart}
use Rattle.rules.specs.Promises.{Arrived, last, older, counting}
use Rattle.rules.specs.declared.place.Place.{Place}

module _ {P : Type 0} (counts : Rule) (m n : ℕ) (Q : P → Type 0) where
  -- what holds of the window holds of each piece that counts
  pub counting_each : {a : ℕ} {p : P} {d : ℕ} {h : List (P × ℕ)} → Arrived a p d h → counts a d m n ≡ true
      → Every Q (counting counts m n h) → Q p
  counting_each {a} {p} {d} (last {x} {h} e f g) c all =
      subst Q f
      (go (counts (suc (length h)) x.1 m n)
      (ap (λ z. counts z x.1 m n) (sym e) ∙ ap (λ z. counts a z m n) g ∙ c) all)
    where
      go : (b : Bool) → b ≡ true → Every Q (cond b (x.0 ∷ counting counts m n h) (counting counts m n h)) → Q x.0
      go true e2 q = q.0
      go false e2 q = let z : ◌≡◌ {A = ℕ} 0 1 = cc in absurd (omega arith)
  counting_each (older {x} {h} r) c all = counting_each r c (go (counts (suc (length h)) x.1 m n) all)
    where
      go : (b : Bool) → Every Q (cond b (x.0 ∷ counting counts m n h) (counting counts m n h))
          → Every Q (counting counts m n h)
      go true q = q.1
      go false q = q

  -- what holds of each piece that counts holds of the window
  pub counting-all : (h : List (P × ℕ)) → ((a : ℕ) (q : P) (d : ℕ) → Arrived a q d h → counts a d m n ≡ true → Q q)
      → Every Q (counting counts m n h)
  counting-all [] f = tt
  counting-all (x ∷ h) f = go (counts (suc (length h)) x.1 m n) refl
      (counting-all h (λ a q d r c. f a q d (older r) c))
    where
      go : (b : Bool) → counts (suc (length h)) x.1 m n ≡ b → Every Q (counting counts m n h)
          → Every Q (cond b (x.0 ∷ counting counts m n h) (counting counts m n h))
      go true e q = (f (suc (length h)) x.0 x.1 (last refl refl refl) e, q)
      go false e q = q

pub metric_apart : {P : Type 0} {dist : Distance P} → Metric dist → Metric (apart dist)
metric_apart m = record {
  range = λ x y. m.range x.piece y.piece;
  zero = λ x. m.zero x.piece;
  symmetric = λ x y. m.symmetric x.piece y.piece;
  triangle = λ x y z. m.triangle x.piece y.piece z.piece;
}

-- a piece as one at a place
abbrev pub lone : {P : Type 0} → P → Place P
lone p = record { piece = p; arrival = 0; day = 0; attractor = 0 }

near_lone : {P : Type 0} (dist : Distance P) (r : ℕ) (choice : List P) (x : Place P) → Near dist r choice x.piece
    → Near (apart dist) r (map lone choice) x
near_lone dist r [] x h = h
near_lone dist r (c ∷ cs) x h = elim h [ inl k ↦ inl k | inr k ↦ inr (near_lone dist r cs x k) ]

-- a choice that covers the window covers places that count
pub covers-places : {P : Type 0} (dist : Distance P) (counts : Rule) (h : List (P × ℕ)) (m n r : ℕ) (choice : List P)
    (xs : List (Place P))
    → Every (Living counts h m n) xs → Covers dist r choice (counting counts m n h)
    → Covers (apart dist) r (map lone choice) xs
covers-places dist counts h m n r choice xs living cover =
    All-weaker (Living counts h m n) (Near (apart dist) r (map lone choice))
    (λ x l. near_lone dist r choice x (counting_each counts m n (Near dist r choice) l.0 l.1 cover)) xs living

-- Every choice of at most k pieces leaves one of xs farther than b.
abbrev pub Beats : {P : Type 0} → Distance P → ℕ → List P → ℕ → Type 0
Beats {P} dist k xs b = (choice : List P) (r : ℕ) → length choice ≤ k → Covers dist r choice xs → b < r

-- and so of a floor, where there is one
abbrev pub BeatsFloor : {P : Type 0} → Distance P → ℕ → List P → Option ℕ → Type 0
BeatsFloor dist k xs None = Unit {0}
BeatsFloor dist k xs (Some b) = Beats dist k xs b
