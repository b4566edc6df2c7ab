-- The clean-up: with k + 1 attractors, what is older than the oldest of them does not matter and is removed.
use Rattle.std.proofs.Common.{◌≡◌, ℕ, suc, ◌<◌, ◌≤◌, true, leb, List, [], ◌∷◌, length, filter, Option, sym, subst, inl, inr, le_refl, arith}
use Rattle.std.specs.List.{AllByRecursion as Every}
use Rattle.std.proofs.ByRecursion.{All-weaker}
use Rattle.std.proofs.lemmas.Bool.{leb-true, le-leb}
use Rattle.std.proofs.lemmas.Bool.Decides.{eqb_tells}
use Rattle.term.specs.Formulas.{Rule}
use Rattle.term.specs.declared.window.Stamp.{Stamp}
use Rattle.cover.specs.Distances.{Distance}
use Rattle.rules.proofs.Attracting.{grown}
use Rattle.rules.proofs.Expiring.{marked_kept}
use Rattle.rules.proofs.Orphans.{Rising, Split, split_live}
use Rattle.rules.proofs.Somes.{Pairwise, any_stays, all_unit, all_kept, kept_fewer, pairwise_weaker}
use Rattle.rules.proofs.Sound.{Ahead, Tied, Serves, Relevant, Coarse, Close, Reaches, Fine}
use Rattle.rules.specs.Steps.{oldest, clean_up}
use Rattle.rules.specs.Views.{Entry, Row}
use Rattle.rules.specs.Words.{Any}
use Rattle.rules.specs.declared.place.Place.{Place}

pub rising_of : {P : Type 0} (dist : Distance P) (g : ℕ) (att : List (Place P)) → Pairwise (Ahead dist g) att
    → Rising att
rising_of dist g att p = pairwise_weaker (Ahead dist g) (λ v w. v.arrival < w.arrival) (λ v w l. l.0) att p

-- the first attractor is the oldest
oldest-least : {P : Type 0} (att : List (Place P)) (a : ℕ) → Rising att → Any (λ v. v.arrival ≤ a) att
    → oldest att ≤ a
oldest-least [] a r some = elim some [ ]
oldest-least {P} (v ∷ vs) a r some = elim some [ inl h ↦ h | inr h ↦ go vs r.0 h ]
  where
    go : (ws : List (Place P)) → Every (λ w. v.arrival < w.arrival) ws → Any (λ w. w.arrival ≤ a) ws → v.arrival ≤ a
    go [] q h = elim h [ ]
    go (w ∷ ws) q h = elim h [ inl k ↦ omega (arith, q.0) | inr k ↦ go ws q.1 k ]

oldest-passes : {P : Type 0} (att : List (Place P)) → Rising att → Every (λ v. leb (oldest att) v.arrival ≡ true) att
oldest-passes [] r = tt
oldest-passes (v ∷ vs) r = (
  le-leb v.arrival v.arrival (le_refl v.arrival),
  All-weaker (λ w. v.arrival < w.arrival)
      (λ w. leb v.arrival w.arrival ≡ true) (λ w lt. le-leb v.arrival w.arrival (omega arith)) vs
      r.0,
)

module _ {P : Type 0} (dist : Distance P) (counts : Rule) (k g : ℕ) (h : List (P × ℕ)) (m n : ℕ)
    (att : List (Place P)) (full : length att ≡ suc k) (rising : Rising att) where
  -- with k + 1 attractors only what is as new as the oldest matters
  matters : (a : ℕ) → Relevant k att a → oldest att ≤ a
  matters a rel = elim rel [ inl few ↦ absurd (omega arith) | inr some ↦ oldest-least att a rising some ]

  coarse_cleaned : (t : ℕ) (rep : List (Place P)) → t ≤ oldest att → Coarse dist counts k g t h m n att rep
      → Coarse dist counts k g 0 h m n att (filter (λ y. leb (oldest att) y.arrival) rep)
  coarse_cleaned t rep low s =
      let f = λ (y : Place P). leb (oldest att) y.arrival in
      record {
        living = s.living;
        apart = s.apart;
        few = s.few;
        tied = all_kept (Tied dist counts g h m n) f rep s.tied;
        split =
            subst (λ ys. Split k 0 att (filter f ys)) (sym s.split.is)
            (split_live f (λ y. Unit {0})
            (λ v w _ _ le e. le-leb (oldest att) w.arrival
            (omega (arith, leb-true (oldest att) v.arrival e))) k t
            s.split.orphans att s.split.own
            s.split.few
            (All-weaker (λ y. Unit {0}) (λ y. leb (oldest att) y.arrival ≡ true → t ≤ y.arrival)
            (λ y _ e. omega (arith, leb-true (oldest att) y.arrival e)) s.split.orphans
            (all_unit s.split.orphans))
            (oldest-passes att rising) (all_unit att) (all_unit s.split.own) s.split.parts);
        covered = λ q a d r c rel.
            any_stays (Serves dist g h q a) (λ y. Unit {0}) f
            (λ y _ w. le-leb (oldest att) y.arrival (omega (arith, w.0, matters a rel))) rep (all_unit rep)
            (s.covered q a d r c rel);
      }

  fine_cleaned : (limit s : ℕ) (fine : List (Entry P)) (lost : Option Stamp)
      → Fine dist counts k limit s h m n att fine lost
      → Fine dist counts k limit s h m n att (filter (λ e. leb (oldest att) e.latest.arrival) fine) lost
  fine_cleaned limit s fine lost z =
      let f = λ (e : Entry P). leb (oldest att) e.latest.arrival in
      record {
        near = all_kept (Close dist counts s h m n) f fine z.near;
        few = omega (arith, z.few, kept_fewer f fine);
        marked = marked_kept h fine f lost z.marked;
        covered = λ q a d r c rel above.
            any_stays (Reaches dist s q a) (λ e. Unit {0}) f
            (λ e _ w. le-leb (oldest att) e.latest.arrival (omega (arith, w.0, matters a rel))) fine
            (all_unit fine) (z.covered q a d r c rel above);
      }

-- after the piece has settled: the attractors and representatives know it, the fine entries do not yet
pub record Settled {P : Type 0} (dist : Distance P) (counts : Rule) (k limit s : ℕ) (h : List (P × ℕ)) (x : Place P)
    (row : Row P) : Type 0 where
  pub coarse : Coarse dist counts k row.radius 0 (grown h x) x.arrival x.day row.attractors
      row.representatives
  pub fine : Fine dist counts k limit s h x.arrival x.day row.attractors row.fine row.lost

pub cleaned : {P : Type 0} (dist : Distance P) (counts : Rule) (k limit s : ℕ) (h : List (P × ℕ)) (x : Place P) (t : ℕ)
    (row : Row P)
    → t ≤ oldest row.attractors → (length row.attractors ≤ k → t ≡ 0)
    → Coarse dist counts k row.radius t (grown h x) x.arrival x.day row.attractors row.representatives
    → Fine dist counts k limit s h x.arrival x.day row.attractors row.fine row.lost
    → Settled dist counts k limit s h x (clean_up k row)
cleaned dist counts k limit s h x t row low none c f =
    elim (eqb_tells (length row.attractors) (suc k)) [
      | inl e ↦
          let rising = rising_of dist row.radius row.attractors c.apart in
          rw e.0 (record {
            coarse = coarse_cleaned dist counts k row.radius (grown h x) x.arrival x.day row.attractors
                e.1 rising t row.representatives low c;
            fine = fine_cleaned dist counts k row.radius h x.arrival x.day row.attractors
                e.1 rising limit s row.fine row.lost f;
          })
      | inr e ↦
          let z : t ≡ 0 = none (omega (arith, c.few, e.1)) in
          rw e.0 (record {
            coarse = subst
                (λ u. Coarse dist counts k row.radius u (grown h x) x.arrival x.day row.attractors
                row.representatives) z c;
            fine = f;
          })
    ]
