-- The new piece becomes an attractor. The oldest of k + 1 goes before it.
use Rattle.std.proofs.Common.{◌≡◌, ℕ, suc, ◌*◌, ◌<◌, ◌≤◌, true, false, ◌⊎◌, List, [], ◌∷◌, ◌++◌, length, Option, sym, refl, ap, ◌∙◌, subst, inl, inr, le_refl, arith}
use Rattle.std.specs.List.{AllByRecursion as Every}
use Rattle.std.proofs.lemmas.List.Elements.{AllZip-push}
use Rattle.std.proofs.ByRecursion.{All-weaker, All-push}
use Rattle.std.proofs.lemmas.List.{append_assoc, length_push}
use Rattle.std.proofs.lemmas.Bool.{leb-false, eq-eqb, ne_eqb}
use Rattle.term.specs.Formulas.{Rule}
use Rattle.term.specs.declared.window.Stamp.{Stamp}
use Rattle.cover.specs.Distances.{Distance, Metric}
use Rattle.rules.proofs.Attracting.{grown, living_grown, tied_grown, serves_grown, new_living, new_stands}
use Rattle.rules.proofs.Histories.{arrived_low}
use Rattle.rules.proofs.Orphans.{Own, Split, newer, newer_none, few_at_last, split_trim}
use Rattle.rules.proofs.Somes.{Pairwise, any_weaker, any_push, any_last, any_push_cases, all_zip, all_parts, pairwise_push}
use Rattle.rules.proofs.Sound.{Living, Through, Ahead, Tied, Serves, Relevant, Coarse, Fine}
use Rattle.rules.specs.Laws.{Lawful}
use Rattle.rules.specs.Promises.{Arrived, last, older}
use Rattle.rules.specs.Steps.{within, standing_for, trim, enrol, oldest, clean_up}
use Rattle.rules.specs.Views.{Entry, Row}
use Rattle.rules.specs.Words.{Any}
use Rattle.rules.specs.declared.place.Place.{Place}
use Rattle.rules.proofs.Cleaning.{rising_of, Settled, cleaned}

module _ {P : Type 0} (dist : Distance P) (metric : Metric dist) {counts : Rule} (law : Lawful counts)
    (h : List (P × ℕ)) (x : Place P) (next : x.arrival ≡ suc (length h)) (k g : ℕ) where
  -- one more attractor, where there are at most k
  appended : (t : ℕ) (att rep : List (Place P)) → Every (Living counts h x.arrival x.day) att
      → Pairwise (Ahead dist g) att → length att ≤ k → Every (λ v. within dist (2 * g) v x ≡ false) att
      → Every (Tied dist counts g h x.arrival x.day) rep → Split k t att rep
      → ((q : P) (a d : ℕ) → Arrived a q d h → counts a d x.arrival x.day ≡ true → Relevant k
      (att ++ (x ∷ [])) a → Any (Serves dist g h q a) rep)
      → Coarse dist counts k g t (grown h x) x.arrival x.day (att ++ (x ∷ []))
      (rep ++ (standing_for x.arrival x ∷ []))
  appended t att rep living apart few far tied split cover =
      let own = (all_parts (Tied dist counts g h x.arrival x.day) split.orphans split.own
      (subst (Every (Tied dist counts g h x.arrival x.day)) split.is tied)).0 in
      let none : newer x.arrival split.orphans ≡ 0 =
      newer_none x.arrival split.orphans
      (All-weaker (Tied dist counts g h x.arrival x.day) (λ y. y.arrival < x.arrival)
      (λ y l. omega (arith, arrived_low l.0.0)) split.orphans own) in
      record {
        living =
            All-push (Living counts (grown h x) x.arrival x.day) att x
            (All-weaker (Living counts h x.arrival x.day) (Living counts (grown h x) x.arrival x.day)
            (λ y l. living_grown dist counts h x x.arrival x.day y l) att living)
            (new_living dist law h x next);
        apart =
            pairwise_push (Ahead dist g) att x apart
            (all_zip (Living counts h x.arrival x.day) (λ v. within dist (2 * g) v x ≡ false)
            (λ v. Ahead dist g v x)
            (λ v l f. (
              omega (arith, arrived_low l.0),
              leb-false (dist v.piece x.piece)
                  (2 * g) f,
            )) att living far);
        few = omega (arith, length_push att x);
        tied =
            All-push (Tied dist counts g (grown h x) x.arrival x.day) rep (standing_for x.arrival x)
            (All-weaker (Tied dist counts g h x.arrival x.day)
            (Tied dist counts g (grown h x) x.arrival x.day)
            (λ y l. tied_grown dist counts h x g x.arrival x.day y l) rep tied)
            (new_stands dist law h x next x.arrival, itself);
        split = record {
          orphans = split.orphans;
          own = split.own ++ (standing_for x.arrival x ∷ []);
          is = ap (λ ys. ys ++ (standing_for x.arrival x ∷ [])) split.is ∙ append_assoc split.orphans
              split.own (standing_for x.arrival x ∷ []);
          few = split.few;
          parts = record {
            few_at = few_at_last k 0 split.orphans att x split.parts.few_at (omega arith);
            below =
                All-push (λ v. Every (λ y. y.attractor < v.arrival) split.orphans) att x split.parts.below
                (All-weaker (Tied dist counts g h x.arrival x.day) (λ y. y.attractor < x.arrival)
                (λ y l. omega (arith, arrived_low l.1.2)) split.orphans own);
            owned = AllZip-push Own att split.own x (standing_for x.arrival x) split.parts.owned
                (refl, le_refl x.arrival);
          };
        };
        covered = cover_grown;
      }
    where
      itself : Through dist (grown h x) (2 * g) x.arrival x.piece
      itself = (x.piece, x.day, last next refl refl, omega (arith, metric.zero x.piece))

      cover_grown : (q : P) (a d : ℕ) → Arrived a q d (grown h x) → counts a d x.arrival x.day ≡ true
          → Relevant k (att ++ (x ∷ [])) a
          → Any (Serves dist g (grown h x) q a) (rep ++ (standing_for x.arrival x ∷ []))
      cover_grown q a d (last e same f) c rel =
          any_last (Serves dist g (grown h x) q a) rep (standing_for x.arrival x)
          (omega arith, subst (λ z. Through dist (grown h x) (2 * g) x.arrival z) same itself)
      cover_grown q a d (older r) c rel =
          any_push (Serves dist g (grown h x) q a) rep (standing_for x.arrival x)
          (any_weaker (Serves dist g h q a) (Serves dist g (grown h x) q a)
          (λ y w. serves_grown dist counts h x g q a y w) rep (cover q a d r c rel))

trim_small : {P : Type 0} (k : ℕ) (att : List (Place P)) (x : Place P) → length att ≤ k
    → trim k (att ++ (x ∷ [])) ≡ att ++ (x ∷ [])
trim_small k att x few = rw (ne_eqb (length (att ++ (x ∷ []))) (suc (suc k))
    (λ e. omega (arith, length_push att x))) refl

trim_full : {P : Type 0} (k : ℕ) (w : Place P) (vs : List (Place P)) (x : Place P) → length vs ≡ k
    → trim k ((w ∷ vs) ++ (x ∷ [])) ≡ vs ++ (x ∷ [])
trim_full k w vs x e = rw (eq-eqb (length ((w ∷ vs) ++ (x ∷ []))) (suc (suc k))
    (omega (arith, length_push vs x))) refl

-- enrol, with the attractors that are left
abbrev enrolled_as : {P : Type 0} → Place P → Row P → List (Place P) → Row P
enrolled_as x row att = record {
  radius = row.radius;
  attractors = att;
  representatives = row.representatives ++
      (standing_for x.arrival x ∷ []);
  fine = row.fine;
  lost = row.lost;
}

-- what mattered of the attractors before matters of those after
fine_for : {P : Type 0} (dist : Distance P) (counts : Rule) (k limit s : ℕ) (h : List (P × ℕ)) (m n : ℕ)
    (att att2 : List (Place P)) (fine : List (Entry P)) (lost : Option Stamp)
    → ((a : ℕ) → a ≤ length h → Relevant k att2 a → Relevant k att a) → Fine dist counts k limit s h m n att fine lost
    → Fine dist counts k limit s h m n att2 fine lost
fine_for dist counts k limit s h m n att att2 fine lost f z = record {
  near = z.near;
  few = z.few;
  marked = z.marked;
  covered = λ q a d r c rel above. z.covered q a d r c (f a (arrived_low r) rel) above;
}

module _ {P : Type 0} (dist : Distance P) (metric : Metric dist) {counts : Rule} (law : Lawful counts)
    (h : List (P × ℕ)) (x : Place P) (next : x.arrival ≡ suc (length h)) (k limit s : ℕ) (row : Row P) where
  -- with at most k attractors
  enrolled_small : length row.attractors ≤ k
      → Every (λ v. within dist (2 * row.radius) v x ≡ false) row.attractors
      → Coarse dist counts k row.radius 0 h x.arrival x.day row.attractors row.representatives
      → Fine dist counts k limit s h x.arrival x.day row.attractors row.fine row.lost
      → Settled dist counts k limit s h x (clean_up k (enrol k x row))
  enrolled_small few far c f =
      subst (λ ys. Settled dist counts k limit s h x (clean_up k (enrolled_as x row ys)))
      (sym (trim_small k row.attractors x few))
      (cleaned dist counts k limit s h x 0 (enrolled_as x row (row.attractors ++ (x ∷ []))) (omega arith) (λ _. refl)
      (appended dist metric law h x next k row.radius 0 row.attractors row.representatives c.living
      c.apart few far c.tied c.split (λ q a d r t rel. c.covered q a d r t (inl few)))
      (fine_for dist counts k limit s h x.arrival x.day row.attractors (row.attractors ++ (x ∷ []))
      row.fine row.lost (λ a _ rel. inl few) f))

  -- with k + 1: the oldest goes
  enrolled_full : (w : Place P) (vs : List (Place P)) → length vs ≡ k → row.attractors ≡ w ∷ vs
      → Every (λ v. within dist (2 * row.radius) v x ≡ false) (w ∷ vs)
      → Coarse dist counts k row.radius 0 h x.arrival x.day (w ∷ vs) row.representatives
      → Fine dist counts k limit s h x.arrival x.day (w ∷ vs) row.fine row.lost
      → Settled dist counts k limit s h x (clean_up k (enrol k x row))
  enrolled_full w vs len is far c f =
      subst (λ ys. Settled dist counts k limit s h x (clean_up k (enrolled_as x row ys)))
      (sym (ap (λ ys. trim k (ys ++ (x ∷ []))) is ∙ trim_full k w vs x len))
      (cleaned dist counts k limit s h x w.arrival (enrolled_as x row (vs ++ (x ∷ []))) (low vs c.apart.0)
      (λ few. absurd (omega (arith, length_push vs x)))
      (appended dist metric law h x next k row.radius w.arrival vs row.representatives c.living.1
      c.apart.1 (omega arith) far.1 c.tied
      (split_trim k 0 w vs row.representatives (rising_of dist row.radius (w ∷ vs) c.apart) c.split)
      (λ q a d r t rel. c.covered q a d r t (before a (arrived_low r) rel)))
      (fine_for dist counts k limit s h x.arrival x.day (w ∷ vs) (vs ++ (x ∷ [])) row.fine
      row.lost before f))
    where
      before : (a : ℕ) → a ≤ length h → Relevant k (vs ++ (x ∷ [])) a → Relevant k (w ∷ vs) a
      before a le rel =
          elim rel [
            | inl few ↦ absurd (omega (arith, length_push vs x))
            | inr some ↦ elim (any_push_cases (λ v. v.arrival ≤ a) vs x some)
                [ inl old ↦ inr (inr old) | inr new ↦ absurd (omega arith) ]
          ]

      low : (us : List (Place P)) → Every (Ahead dist row.radius w) us → w.arrival ≤ oldest (us ++ (x ∷ []))
      low [] a = omega (arith, arrived_low c.living.0.0)
      low (u ∷ us) a = omega (arith, a.0.0)

  pub enrolled_by : (att : List (Place P)) → row.attractors ≡ att
      → Every (λ v. within dist (2 * row.radius) v x ≡ false) att
      → Coarse dist counts k row.radius 0 h x.arrival x.day att row.representatives
      → Fine dist counts k limit s h x.arrival x.day att row.fine row.lost
      → (length att ≤ k) ⊎ (length att ≡ suc k)
      → Settled dist counts k limit s h x (clean_up k (enrol k x row))
  enrolled_by att is far c f (inl few) =
      enrolled_small (subst (λ ys. length ys ≤ k) (sym is) few)
      (subst (Every (λ v. within dist (2 * row.radius) v x ≡ false)) (sym is) far)
      (subst (λ ys. Coarse dist counts k row.radius 0 h x.arrival x.day ys row.representatives)
      (sym is) c)
      (subst (λ ys. Fine dist counts k limit s h x.arrival x.day ys row.fine row.lost) (sym is) f)
  enrolled_by [] is far c f (inr full) = absurd (omega arith)
  enrolled_by (w ∷ vs) is far c f (inr full) = enrolled_full w vs (omega arith) is far c f
