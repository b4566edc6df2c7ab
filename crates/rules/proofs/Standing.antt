-- Where a radius has at most k attractors, every piece that counts has one in the list that a pick uses that stands
-- for it, no farther than the slack.
use Rattle.std.proofs.Common.{◌≡◌, ℕ, ◌*◌, ◌≤◌, true, List, [], ◌∷◌, map, length, Some, None, Option, subst, inl, inr, arith}
use Rattle.std.specs.List.{AllByRecursion as Every}
use Rattle.std.proofs.ByRecursion.{All-weaker, All-map}
use Rattle.std.proofs.lemmas.Bool.{cases_lt}
use Rattle.term.specs.Formulas.{Rule}
use Rattle.term.specs.declared.window.Stamp.{Stamp}
use Rattle.cover.specs.Distances.{Distance, Metric}
use Rattle.rules.proofs.Histories.{Dated, still, arrived_same}
use Rattle.rules.proofs.Somes.{any_with}
use Rattle.rules.proofs.Sound.{Living, Tied, Serves, Close, Reaches, Marked, Above, Sound}
use Rattle.rules.specs.Laws.{Lawful}
use Rattle.rules.specs.Picking.{grain_by, used, slack}
use Rattle.rules.specs.Promises.{Arrived}
use Rattle.rules.specs.Steps.{step}
use Rattle.rules.specs.Views.{Settings, Row}
use Rattle.rules.specs.Words.{Any}
use Rattle.rules.specs.declared.picked.Grain.{Grain}
use Rattle.rules.specs.declared.picked.Grain.TheVariants.{Fine, Coarse}

any_map : {X Y : Type 0} (C : Y → Type 0) (f : X → Y) (xs : List X) → Any (λ x. C (f x)) xs → Any C (map f xs)
any_map C f [] a = a
any_map C f (x ∷ xs) a = elim a [ inl h ↦ inl h | inr h ↦ inr (any_map C f xs h) ]

module _ {P : Type 0} (dist : Distance P) (metric : Metric dist) {counts : Rule} (law : Lawful counts)
    (set : Settings) (h : List (P × ℕ)) (m n : ℕ) (dated : Dated h m n) (row : Row P)
    (s : Sound dist counts set h m n row) where
  -- where the lost mark no longer counts, whatever counts is newer
  above_mark : (lost : Option Stamp) → Marked h row.fine lost → grain_by counts m n lost ≡ Fine
      → {a : ℕ} {q : P} {d : ℕ} → Arrived a q d h → counts a d m n ≡ true → Above lost a
  above_mark None k e r c = tt
  above_mark (Some mark) k e {a} r c =
      elim (cases_lt mark.arrival a) [
        | inl lt ↦ lt
        | inr le ↦
            let live : counts mark.arrival mark.day m n ≡ true = still law m n dated r k.0.1 le c in
            let coarse = rw live at e in
            let z : ◌≡◌ {A = ℕ} 0 1 = cc in
            absurd (omega arith)
      ]

  pub used_living : (grain : Grain) → Every (Living counts h m n) (used grain row)
  used_living Fine =
      All-map (Living counts h m n) (λ e. e.latest) row.fine
      (All-weaker (Close dist counts (step set.f row.radius) h m n) (λ e. Living counts h m n e.latest)
      (λ e l. l.0) row.fine s.fine.near)
  used_living Coarse = All-weaker (Tied dist counts row.radius h m n) (Living counts h m n) (λ x l. l.0)
      row.representatives s.coarse.tied

  pub stands : length row.attractors ≤ set.k → (grain : Grain) → grain_by counts m n row.lost ≡ grain
      → (a : ℕ) (q : P) (d : ℕ) → Arrived a q d h → counts a d m n ≡ true
      → Any (λ y. dist y.piece q ≤ slack grain set.f row) (used grain row)
  stands few Fine e a q d r c =
      any_map (λ y. dist y.piece q ≤ 2 * step set.f row.radius) (λ z. z.latest) row.fine
      (any_with (Reaches dist (step set.f row.radius) q a)
      (Close dist counts (step set.f row.radius) h m n)
      (λ z. dist z.latest.piece q ≤ 2 * step set.f row.radius)
      (λ z close reach.
      omega (
        arith,
        close.1,
        reach.1,
        metric.triangle z.latest.piece z.first.piece q,
        metric.symmetric
            z.latest.piece z.first.piece,
      ))
      row.fine s.fine.near
      (s.fine.covered q a d r c (inl few) (above_mark row.lost s.fine.marked e r c)))
  stands few Coarse e a q d r c =
      any_with (Serves dist row.radius h q a) (Tied dist counts row.radius h m n)
      (λ y. dist y.piece q ≤ 4 * row.radius)
      (λ y tied serves.
      let v = tied.1.0 in
      let same : serves.1.0 ≡ v = arrived_same serves.1.2 tied.1.2 in
      let near : dist v q ≤ 2 * row.radius = subst (λ w. dist w q ≤ 2 * row.radius) same serves.1.3 in
      omega (arith, tied.1.3, metric.triangle y.piece v q, metric.symmetric y.piece v))
      row.representatives s.coarse.tied (s.coarse.covered q a d r c (inl few))
