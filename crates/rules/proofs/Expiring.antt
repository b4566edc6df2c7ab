-- Time passes: what no longer counts is removed, and the invariant holds at the new time.
use Rattle.std.proofs.Common.{◌≡◌, ℕ, ◌<◌, ◌≤◌, Bool, true, false, List, length, Some, None, filter, Option, inl, inr, arith}
use Rattle.std.specs.List.{AllByRecursion as Every}
use Rattle.std.proofs.ByRecursion.{All-weaker}
use Rattle.std.proofs.lemmas.Bool.{cases_lt, both_ways}
use Rattle.cover.specs.Distances.{Distance}
use Rattle.term.specs.Formulas.{Rule}
use Rattle.term.specs.declared.window.Stamp.{Stamp}
use Rattle.rules.proofs.Histories.{Dated, still, sooner}
use Rattle.rules.proofs.Orphans.{split_by}
use Rattle.rules.proofs.Somes.{any_with, any_of_kept, any_stays, some_went, kept_fewer, all_kept_with, all_kept, pairwise_kept, pairwise_weaker}
use Rattle.rules.proofs.Sound.{Known, Living, Ahead, Tied, Serves, Relevant, Coarse, Close, Reaches, Marked, Fine, Sound}
use Rattle.rules.specs.Laws.{Lawful}
use Rattle.rules.specs.Promises.{Arrived}
use Rattle.rules.specs.Steps.{alive, expire}
use Rattle.rules.specs.Views.{Settings, Entry, Row}
use Rattle.rules.specs.declared.place.Place.{Place}

pub marked_kept : {P : Type 0} (h : List (P × ℕ)) (fine : List (Entry P)) (f : Entry P → Bool) (lost : Option Stamp)
    → Marked h fine lost → Marked h (filter f fine) lost
marked_kept h fine f None k = tt
marked_kept h fine f (Some mark) k = (k.0, all_kept (λ e. mark.arrival ≤ e.latest.arrival) f fine k.1)

module _ {P : Type 0} (dist : Distance P) {counts : Rule} (law : Lawful counts) (h : List (P × ℕ)) (m n m2 n2 : ℕ)
    (old : Dated h m n) (new : Dated h m2 n2) (le : m ≤ m2) (le2 : n ≤ n2) where
  -- what matters now mattered before: if an attractor went, it was no newer than what counts
  relevant_before : (k : ℕ) (att : List (Place P)) → Every (Living counts h m n) att → {a : ℕ} {q : P} {d : ℕ}
      → Arrived a q d h → counts a d m2 n2 ≡ true → Relevant k (filter (alive counts m2 n2) att) a → Relevant k att a
  relevant_before k att living {a} r c rel =
      elim rel [
        | inl few ↦ elim (cases_lt (length (filter (alive counts m2 n2) att)) (length att)) [
          | inl went ↦
              inr (any_with (λ v. alive counts m2 n2 v ≡ false) (Living counts h m n) (λ v. v.arrival ≤ a)
              (λ v live gone. elim (cases_lt a v.arrival) [
                | inl lt ↦ absurd
                    (both_ways (alive counts m2 n2 v) gone
                    (still law m2 n2 new r live.0 (omega arith) c))
                | inr ge ↦ ge
              ])
              att living (some_went (alive counts m2 n2) att went))
          | inr all ↦ inl (omega arith)
        ]
        | inr some ↦ inr (any_of_kept (λ v. v.arrival ≤ a) (alive counts m2 n2) att some)
      ]

  pub coarse_expired : (k g : ℕ) (att rep : List (Place P)) → Coarse dist counts k g 0 h m n att rep
      → Coarse dist counts k g 0 h m2 n2 (filter (alive counts m2 n2) att) (filter (alive counts m2 n2) rep)
  coarse_expired k g att rep s = record {
    living = all_kept_with (Living counts h m n) (Living counts h m2 n2) (alive counts m2 n2) (λ x l e. (l.0, e)) att
        s.living;
    apart = pairwise_kept (Ahead dist g) (alive counts m2 n2) att s.apart;
    few = omega (arith, s.few, kept_fewer (alive counts m2 n2) att);
    tied = all_kept_with (Tied dist counts g h m n) (Tied dist counts g h m2 n2) (alive counts m2 n2)
        (λ x l e. ((l.0.0, e), l.1)) rep s.tied;
    split =
        split_by (alive counts m2 n2) (Known h) (λ v w hv hw lt e. still law m2 n2 new hv hw lt e) k att rep
        (All-weaker (Living counts h m n) (Known h) (λ x l. l.0) att s.living)
        (All-weaker (Tied dist counts g h m n) (Known h) (λ x l. l.0.0) rep s.tied)
        (pairwise_weaker (Ahead dist g) (λ v w. v.arrival < w.arrival) (λ v w l. l.0) att s.apart)
        s.split;
    covered = λ q a d r c rel.
        any_stays (Serves dist g h q a) (Tied dist counts g h m n) (alive counts m2 n2)
        (λ x l serve. still law m2 n2 new r l.0.0 serve.0 c) rep s.tied
        (s.covered q a d r (sooner law m n m2 n2 old le le2 r c) (relevant_before k att s.living r c rel));
  }

  pub fine-expired : (k limit s : ℕ) (att : List (Place P)) (fine : List (Entry P)) (lost : Option Stamp)
      → Every (Living counts h m n) att → Fine dist counts k limit s h m n att fine lost
      → Fine dist counts k limit s h m2 n2 (filter (alive counts m2 n2) att)
      (filter (λ e. alive counts m2 n2 e.latest) fine) lost
  fine-expired k limit s att fine lost living z = record {
    near = all_kept_with (Close dist counts s h m n) (Close dist counts s h m2 n2)
        (λ e. alive counts m2 n2 e.latest) (λ x l e. ((l.0.0, e), l.1)) fine z.near;
    few = omega (arith, z.few, kept_fewer (λ e. alive counts m2 n2 e.latest) fine);
    marked = marked_kept h fine (λ e. alive counts m2 n2 e.latest) lost z.marked;
    covered = λ q a d r c rel above.
        any_stays (Reaches dist s q a) (Close dist counts s h m n) (λ e. alive counts m2 n2 e.latest)
        (λ e l reach. still law m2 n2 new r l.0.0 reach.0 c) fine z.near
        (z.covered q a d r (sooner law m n m2 n2 old le le2 r c) (relevant_before k att living r c rel) above);
  }

  pub expired : (set : Settings) (row : Row P) → Sound dist counts set h m n row
      → Sound dist counts set h m2 n2 (expire counts m2 n2 row)
  expired set row s = record {
    coarse = coarse_expired set.k row.radius row.attractors row.representatives s.coarse;
    fine = fine-expired set.k set.fine_limit _ row.attractors row.fine row.lost s.coarse.living
        s.fine;
  }
