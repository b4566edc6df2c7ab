-- The new piece goes among the fine entries: one takes it, or it makes one of its own, for which one may go.
use Rattle.std.proofs.Common.{◌≡◌, ℕ, suc, ◌<◌, ◌≤◌, Bool, true, List, [], ◌∷◌, ◌++◌, length, Some, None, Option, subst, inl, inr, arith}
use Rattle.std.specs.List.{AllByRecursion as Every}
use Rattle.std.proofs.ByRecursion.{All-weaker, All-push}
use Rattle.std.proofs.lemmas.List.{length_push}
use Rattle.std.proofs.lemmas.Bool.{leb-true}
use Rattle.std.proofs.lemmas.Bool.Decides.{eqb_tells}
use Rattle.term.specs.Formulas.{Rule}
use Rattle.term.specs.declared.window.Stamp.{Stamp}
use Rattle.cover.specs.Distances.{Distance, Metric}
use Rattle.rules.proofs.Attracting.{grown, living_grown, new_living}
use Rattle.rules.proofs.Changes.{first_is, first_any, all_changed, length_changed, any_new, any_changed, least-length, least-all, least-least, least_any}
use Rattle.rules.proofs.Histories.{arrived_low}
use Rattle.rules.proofs.Somes.{any_push, any_last, all_unit}
use Rattle.rules.proofs.Sound.{Relevant, Close, Reaches, Marked, Above, Fine}
use Rattle.rules.specs.Laws.{Lawful}
use Rattle.rules.specs.Promises.{Arrived, last, older}
use Rattle.rules.specs.Steps.{within, taken_by, make_room}
use Rattle.rules.specs.Views.{Entry}
use Rattle.rules.specs.Words.{Any, first_of, change_first, least}
use Rattle.rules.specs.declared.place.Place.{Place}

-- when an entry's latest piece came
abbrev since : {P : Type 0} → Entry P → ℕ
since e = e.latest.arrival

abbrev alone : {P : Type 0} → Place P → Entry P
alone x = record { first = x; latest = x }

marked_grown : {P : Type 0} (h : List (P × ℕ)) (x : Place P) (fine fine2 : List (Entry P)) (lost : Option Stamp)
    → ((n : ℕ) → n ≤ length h → Every (λ e. n ≤ since e) fine → Every (λ e. n ≤ since e) fine2) → Marked h fine lost
    → Marked (grown h x) fine2 lost
marked_grown h x fine fine2 None f k = tt
marked_grown h x fine fine2 (Some mark) f k =
    ((k.0.0, older k.0.1), f mark.arrival (arrived_low k.0.1) k.1)

module _ {P : Type 0} (dist : Distance P) (metric : Metric dist) {counts : Rule} (law : Lawful counts)
    (h : List (P × ℕ)) (x : Place P) (next : x.arrival ≡ suc (length h)) (k limit s : ℕ) (att : List (Place P)) where
  close_grown : (fine : List (Entry P)) → Every (Close dist counts s h x.arrival x.day) fine
      → Every (Close dist counts s (grown h x) x.arrival x.day) fine
  close_grown fine c =
      All-weaker (Close dist counts s h x.arrival x.day) (Close dist counts s (grown h x) x.arrival x.day)
      (λ e l. (living_grown dist counts h x x.arrival x.day e.latest l.0, l.1)) fine c

  -- an entry takes it
  pub fine-taken : (fine : List (Entry P)) (lost : Option Stamp) (e : Entry P)
      → first_of (λ y. within dist s y.first x) fine ≡ Some e
      → Fine dist counts k limit s h x.arrival x.day att fine lost
      → Fine dist counts k limit s (grown h x) x.arrival x.day att
      (change_first (λ y. within dist s y.first x) (taken_by x) fine) lost
  fine-taken fine lost e found z = record {
    near =
        all_changed test (taken_by x) (Close dist counts s (grown h x) x.arrival x.day)
        (λ y l t. (new_living dist law h x next, leb-true (dist y.first.piece x.piece) s t)) fine
        (close_grown fine z.near);
    few = omega (arith, z.few, length_changed test (taken_by x) fine);
    marked =
        marked_grown h x fine (change_first test (taken_by x) fine) lost
        (λ n le a. all_changed test (taken_by x) (λ y. n ≤ since y) (λ y _ _. omega arith) fine a) z.marked;
    covered = cover;
  }
    where
      test : Entry P → Bool
      test y = within dist s y.first x

      cover : (q : P) (a d : ℕ) → Arrived a q d (grown h x) → counts a d x.arrival x.day ≡ true
          → Relevant k att a → Above lost a → Any (Reaches dist s q a) (change_first test (taken_by x) fine)
      cover q a d (last e2 same f) c rel above =
          any_new test (taken_by x) (λ y. dist y.first.piece x.piece ≤ s) (Reaches dist s q a)
          (λ y near. (omega arith, subst (λ p. dist y.first.piece p ≤ s) same near)) fine
          (first_any test (λ y. dist y.first.piece x.piece ≤ s) fine e found
          (leb-true (dist e.first.piece x.piece) s
          (first_is test (λ y. Unit {0}) fine e (all_unit fine) found).1))
          (λ y w _ t. leb-true (dist w.first.piece x.piece) s t)
      cover q a d (older r) c rel above =
          any_changed test (taken_by x) (Reaches dist s q a) (Reaches dist s q a) (λ y w. w)
          (λ y t w. (omega (arith, arrived_low r), w.1)) fine
          (z.covered q a d r c rel above)

  -- an entry of its own, where there is room
  fine_pushed : (fine : List (Entry P)) (lost : Option Stamp) → length fine < limit
      → Fine dist counts k limit s h x.arrival x.day att fine lost
      → Fine dist counts k limit s (grown h x) x.arrival x.day att (fine ++ (alone x ∷ [])) lost
  fine_pushed fine lost room z = record {
    near = All-push (Close dist counts s (grown h x) x.arrival x.day) fine (alone x)
        (close_grown fine z.near) (new_living dist law h x next, omega (arith, metric.zero x.piece));
    few = omega (arith, length_push fine (alone x));
    marked = marked_grown h x fine (fine ++ (alone x ∷ [])) lost
        (λ n le a. All-push (λ y. n ≤ since y) fine (alone x) a (omega arith)) z.marked;
    covered = cover;
  }
    where
      cover : (q : P) (a d : ℕ) → Arrived a q d (grown h x) → counts a d x.arrival x.day ≡ true
          → Relevant k att a → Above lost a → Any (Reaches dist s q a) (fine ++ (alone x ∷ []))
      cover q a d (last e same f) c rel above =
          any_last (Reaches dist s q a) fine (alone x)
          (omega arith, subst (λ p. dist x.piece p ≤ s) same (omega (arith, metric.zero x.piece)))
      cover q a d (older r) c rel above = any_push (Reaches dist s q a) fine (alone x)
          (z.covered q a d r c rel above)

  -- the entry with the least latest arrival goes, and its latest piece is the lost mark
  fine_evicted : (e : Entry P) (es : List (Entry P)) (lost : Option Stamp)
      → Fine dist counts k limit s h x.arrival x.day att (e ∷ es) lost
      → Fine dist counts k limit s h x.arrival x.day att (least since e es).1
      (Some (record { arrival = (least since e es).0.latest.arrival; day = (least since e es).0.latest.day }))
  fine_evicted e es lost z =
      let all = least-all since (Close dist counts s h x.arrival x.day) e es z.near in
      record {
        near = all.1;
        few = omega (arith, z.few, least-length since e es);
        marked = (((least since e es).0.latest.piece, all.0.0.0), least-least since e es);
        covered = λ q a d r c rel above.
            elim (least_any since (Reaches dist s q a) e es
            (z.covered q a d r c rel (above_old lost z.marked a above))) [
              | inl gone ↦ absurd (omega (arith, gone.0))
              | inr stays ↦ stays
            ];
      }
    where
      above_old : (lost : Option Stamp) → Marked h (e ∷ es) lost → (a : ℕ) → (least since e es).0.latest.arrival < a
          → Above lost a
      above_old None k a lt = tt
      above_old (Some mark) k a lt = omega (arith, (least-all since (λ y. mark.arrival ≤ since y) e es k.1).0)

  pub fine_new : (fine : List (Entry P)) (lost : Option Stamp) → 1 ≤ limit
      → Fine dist counts k limit s h x.arrival x.day att fine lost
      → Fine dist counts k limit s (grown h x) x.arrival x.day att
      ((make_room limit fine lost).0 ++ (alone x ∷ [])) (make_room limit fine lost).1
  fine_new [] lost some z = fine_pushed [] lost (omega arith) z
  fine_new (e ∷ es) lost some z =
      elim (eqb_tells (length (e ∷ es)) limit) [
        | inl t ↦ rw t.0
            (fine_pushed (least since e es).1 _ (omega (arith, t.1, least-length since e es))
            (fine_evicted e es lost z))
        | inr t ↦ rw t.0 (fine_pushed (e ∷ es) lost (omega (arith, t.1, z.few)) z)
      ]
