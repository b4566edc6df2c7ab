-- A radius that does not pass is too small for every choice: more than k pieces that count lie farther apart than
-- twice that radius.
use Rattle.std.proofs.Common.{◌≡◌, ℕ, suc, ◌+◌, ◌*◌, ◌<◌, ◌≤◌, max, true, false, leb, List, [], ◌∷◌, ◌++◌, map, length, Some, None, Option, inl, inr, arith}
use Rattle.std.specs.List.{AllByRecursion as Every}
use Rattle.std.proofs.ByRecursion.{All-weaker, All-push}
use Rattle.std.proofs.lemmas.List.{length-map}
use Rattle.std.proofs.lemmas.Bool.{leb-true, leb-false, or_parts, and_cases, and_parts, cases_Bool}
use Rattle.term.specs.Formulas.{Rule}
use Rattle.cover.proofs.Farthest.{spaced_push}
use Rattle.cover.proofs.Pigeons.{pigeons}
use Rattle.cover.specs.Distances.{Distance, Metric, Covers, Spaced}
use Rattle.rules.proofs.Somes.{Pairwise}
use Rattle.rules.proofs.Sound.{Living, Ahead, Tied, Coarse, Sound}
use Rattle.rules.proofs.Windows.{metric_apart, lone, covers-places, Beats, BeatsFloor}
use Rattle.rules.specs.Limits.{allowed}
use Rattle.rules.specs.Picking.{any_within, choose, passes, apart, Taken, taken_after}
use Rattle.rules.specs.Promises.{counting}
use Rattle.rules.specs.Steps.{within}
use Rattle.rules.specs.Views.{Settings, Row}
use Rattle.rules.specs.Words.{last_of}
use Rattle.rules.specs.declared.place.Place.{Place}

-- places that count, more than k, farther apart than twice the radius
record Witness {P : Type 0} (dist : Distance P) (counts : Rule) (k g : ℕ) (h : List (P × ℕ)) (m n : ℕ) : Type 0 where
  places : List (Place P)
  living : Every (Living counts h m n) places
  spaced : Spaced (apart dist) (suc (2 * g)) places
  many : k < length places

spaced_ahead : {P : Type 0} (dist : Distance P) (g : ℕ) (att : List (Place P)) → Pairwise (Ahead dist g) att
    → Spaced (apart dist) (suc (2 * g)) att
spaced_ahead dist g [] p = tt
spaced_ahead dist g (v ∷ vs) p = (
  All-weaker (Ahead dist g v) (λ w. suc (2 * g) ≤ apart dist v w) (λ w l. l.1) vs p.0,
  spaced_ahead dist g vs
      p.1,
)

far_of : {P : Type 0} (dist : Distance P) (r : ℕ) (cs : List (Place P)) (x : Place P) → any_within dist r cs x ≡ false
    → Every (λ c. suc r ≤ apart dist c x) cs
far_of dist r [] x e = tt
far_of dist r (c ∷ cs) x e =
    let p = or_parts (within dist r c x) (any_within dist r cs x) e in
    (leb-false (dist c.piece x.piece) r p.0, far_of dist r cs x p.1)

-- what a trial chooses is of the list, and far apart
module _ {P : Type 0} (dist : Distance P) (r : ℕ) (Q : Place P → Type 0) where
  chosen : (cs xs : List (Place P)) → Every Q cs → Every Q xs → Spaced (apart dist) (suc r) cs
      → Every Q (choose dist r cs xs) × Spaced (apart dist) (suc r) (choose dist r cs xs)
  chosen cs [] qc qx s = (qc, s)
  chosen cs (x ∷ xs) qc qx s =
      elim (cases_Bool (any_within dist r cs x)) [
        | inl e ↦ rw e (chosen cs xs qc qx.1 s)
        | inr e ↦ rw e
            (chosen (cs ++ (x ∷ [])) xs (All-push Q cs x qc qx.0) qx.1
            (spaced_push (apart dist) (suc r) cs x s (far_of dist r cs x e)))
      ]

module _ {P : Type 0} (dist : Distance P) (metric : Metric dist) (counts : Rule) (k : ℕ) (h : List (P × ℕ))
    (m n : ℕ) where
  beaten : (g : ℕ) → Witness dist counts k g h m n → Beats dist k (counting counts m n h) g
  beaten g w choice r few cover =
      let wide : suc (2 * g) ≤ 2 * r =
      pigeons (Place P) (apart dist) (metric_apart metric) (suc (2 * g)) r w.places (map lone choice) w.spaced
      (omega (arith, w.many, length-map choice lone))
      (covers-places dist counts h m n r choice w.places w.living cover) in
      omega arith

  pub failed : (row : Row P) → Coarse dist counts k row.radius 0 h m n row.attractors row.representatives
      → passes dist k row ≡ false → Beats dist k (counting counts m n h) row.radius
  failed row c e =
      beaten row.radius
      (elim (and_cases (leb (length row.attractors) k)
      (leb (length (choose dist (2 * row.radius) [] row.representatives)) k) e) [
        | inl few ↦ record {
          places = row.attractors;
          living = c.living;
          spaced = spaced_ahead dist row.radius row.attractors c.apart;
          many = leb-false (length row.attractors) k few;
        }
        | inr few ↦
            let t = chosen dist (2 * row.radius) (Living counts h m n) [] row.representatives tt
            (All-weaker (Tied dist counts row.radius h m n) (Living counts h m n) (λ x l. l.0)
            row.representatives c.tied) tt in
            record {
              places = choose dist (2 * row.radius) [] row.representatives;
              living = t.0;
              spaced = t.1;
              many = leb-false (length (choose dist (2 * row.radius) [] row.representatives)) k few;
            }
      ])

-- radii from a floor on, each allowed after the one before it; the first is 0
abbrev pub Growing : Option ℕ → List ℕ → Type 0
Growing floor [] = Unit {0}
Growing None (g ∷ gs) = (g ≡ 0) × Growing (Some g) gs
Growing (Some b) (g ∷ gs) = (allowed b g ≡ true) × Growing (Some g) gs

-- a radius is at most twice whatever exceeds the one before it
pub allowed_twice : (b g r : ℕ) → allowed b g ≡ true → b < r → g ≤ 2 * r
allowed_twice b g r e lt = omega
    (arith, leb-true g (max (b + 1) (2 * b)) (and_parts (leb (suc b) g) (leb g (max (b + 1) (2 * b))) e).1)

-- at most twice the reach of every choice
abbrev pub Slight : {P : Type 0} → Distance P → ℕ → List P → ℕ → Type 0
Slight {P} dist k xs g = (choice : List P) (r : ℕ) → length choice ≤ k → Covers dist r choice xs → g ≤ 2 * r

-- The radius taken passes, and the one before it is too small; if none passes, the last is too small.
module _ {P : Type 0} (dist : Distance P) (metric : Metric dist) (counts : Rule) (set : Settings) (h : List (P × ℕ))
    (m n : ℕ) where
  pub record Passed (t : Taken P) : Type 0 where
    pub sound : Sound dist counts set h m n t.row
    pub passes : passes dist set.k t.row ≡ true
    pub slight : Slight dist set.k (counting counts m n h) t.row.radius
    pub below : BeatsFloor dist set.k (counting counts m n h) t.floor

  abbrev pub Outcome : ℕ → Option (Taken P) → Type 0
  Outcome last None = Beats dist set.k (counting counts m n h) last
  Outcome last (Some t) = Passed t

  taken-after : (b : ℕ) (rows : List (Row P)) → Beats dist set.k (counting counts m n h) b
      → Growing (Some b) (map (λ r. r.radius) rows) → Every (Sound dist counts set h m n) rows
      → Outcome (last_of b (map (λ r. r.radius) rows)) (taken_after dist set.k (Some b) rows)
  taken-after b [] beats grow sound = beats
  taken-after b (row ∷ rows) beats grow sound =
      elim (cases_Bool (passes dist set.k row)) [
        | inl e ↦ rw e
            (record {
              sound = sound.0;
              passes = e;
              slight = λ choice r few cover. allowed_twice b row.radius r grow.0 (beats choice r few cover);
              below = beats;
            })
        | inr e ↦ rw e
            (taken-after row.radius rows (failed dist metric counts set.k h m n row sound.0.coarse e)
            grow.1 sound.1)
      ]

  pub taken-first : (row : Row P) (rows : List (Row P)) → Growing None (map (λ r. r.radius) (row ∷ rows))
      → Every (Sound dist counts set h m n) (row ∷ rows)
      → Outcome (last_of 0 (map (λ r. r.radius) (row ∷ rows))) (taken_after dist set.k None (row ∷ rows))
  taken-first row rows grow sound =
      elim (cases_Bool (passes dist set.k row)) [
        | inl e ↦ rw e
            (record { sound = sound.0; passes = e; slight = λ choice r few cover. omega (arith, grow.0); below = tt })
        | inr e ↦ rw e
            (taken-after row.radius rows (failed dist metric counts set.k h m n row sound.0.coarse e)
            grow.1 sound.1)
      ]
