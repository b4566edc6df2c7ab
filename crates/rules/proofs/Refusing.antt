-- A pick at any stage of a run: answered as promised, or refused as promised.
use Rattle.std.proofs.Common.{◌≡◌, ℕ, ◌+◌, ◌≤◌, true, List, [], ◌∷◌, length, Some, None, Option, Result, sym, refl, ap, ◌∙◌, subst, inl, inr, arith}
use Rattle.std.specs.List.{AllByRecursion as Every}
use Rattle.std.proofs.lemmas.List.Elements.{length_all_zip}
use Rattle.std.proofs.lemmas.List.{length-append}
use Rattle.refusal.specs.declared.Refusal.{Refusal}
use Rattle.term.specs.Formulas.{Rule}
use Rattle.cover.specs.Choices.{reach}
use Rattle.cover.specs.Distances.{Distance, Metric, Near}
use Rattle.rules.proofs.Histories.{Days}
use Rattle.rules.proofs.Orphans.{Own}
use Rattle.rules.proofs.Picks.{choice_covers, none_all, among}
use Rattle.rules.proofs.Reasons.{reason_tested}
use Rattle.rules.proofs.Sound.{Serves, Sound}
use Rattle.rules.proofs.Stages.{radii_of, view_of, Running}
use Rattle.rules.proofs.Trials.{Growing, Outcome, taken-first}
use Rattle.rules.proofs.Windows.{counting-all}
use Rattle.rules.specs.Calls.{nothing_in, pick_tests, why_not_pick, pick, told_by, written_by, PickRule}
use Rattle.rules.specs.Laws.{Lawful}
use Rattle.rules.specs.Picking.{grain_by, used, Taken, taken_after, pick_from}
use Rattle.rules.specs.Promises.{Story, window, Refused, Answered}
use Rattle.rules.specs.Views.{Row, View}
use Rattle.rules.specs.Words.{Any, is_empty, last_of, after}
use Rattle.rules.specs.declared.picked.Picked.{Picked}

empty_is : {X : Type 0} (xs : List X) → is_empty xs ≡ true → xs ≡ []
empty_is [] e = refl
empty_is (x ∷ xs) e = let z : ◌≡◌ {A = ℕ} 0 1 = cc in absurd (omega arith)

module _ {P : Type 0} (dist : Distance P) (metric : Metric dist) {counts : Rule} (law : Lawful counts)
    (t : Story P) where
  -- where a radius has no representative, no piece counts
  nothing_counts : (row : Row P) → Sound dist counts t.settings t.posts (length t.posts) t.day row
      → row.representatives ≡ [] → window counts t ≡ []
  nothing_counts row s none =
      let split = s.coarse.split in
      let all : length row.representatives ≡ length split.orphans + length split.own = ap length
      split.is ∙ length-append split.orphans split.own in
      let zero : length row.representatives ≡ 0 = ap length none in
      let few : length row.attractors ≤ t.settings.k = omega
      (arith, length_all_zip Own row.attractors split.own split.parts.owned) in
      none_all (window counts t)
      (counting-all counts (length t.posts) t.day (λ x. ⊥) t.posts
      (λ a q d r c. subst (Any (Serves dist row.radius t.posts q a)) none
      (s.coarse.covered q a d r c (inl few))))

  nothing_in_lem : (rows : List (Row P)) → 1 ≤ length rows
      → Every (Sound dist counts t.settings t.posts (length t.posts) t.day) rows → nothing_in rows ≡ true
      → window counts t ≡ []
  nothing_in_lem [] some sound e = absurd (omega arith)
  nothing_in_lem (row ∷ rows) some sound e = nothing_counts row sound.0 (empty_is row.representatives e)

  -- refused by a test: for want of places, for a short list, or where no piece counts
  refused_by : (rows : List (Row P)) (answers work : List ℕ) (e : Refusal) → 1 ≤ length rows
      → Every (Sound dist counts t.settings t.posts (length t.posts) t.day) rows
      → Any (λ x. (x.0 ≡ true) × (x.1 ≡ e)) (pick_tests (view_of t rows) answers work) → Refused dist counts t e
  refused_by rows answers work e some sound a =
      elim a [
        | inl h ↦ subst (Refused dist counts t) h.1 (record {
          beyond = λ bad. let z : ◌≡◌ {A = ℕ} 0 1 = cc in absurd (omega arith);
          nothing = λ bad. let z : ◌≡◌ {A = ℕ} 0 1 = cc in absurd (omega arith);
          exactly = λ _. inr (inl refl);
        })
        | inr b ↦ elim b [
          | inl h ↦ subst (Refused dist counts t) h.1 (record {
            beyond = λ bad. let z : ◌≡◌ {A = ℕ} 0 1 = cc in absurd (omega arith);
            nothing = λ bad. let z : ◌≡◌ {A = ℕ} 0 1 = cc in absurd (omega arith);
            exactly = λ _. inr (inr refl);
          })
          | inr c ↦ elim c [
            | inl h ↦ subst (Refused dist counts t) h.1 (record {
              beyond = λ bad. let z : ◌≡◌ {A = ℕ} 0 1 = cc in absurd (omega arith);
              nothing = λ _. nothing_in_lem rows some sound h.0;
              exactly = λ _. inl refl;
            })
            | inr d ↦ absurd d
          ]
        ]
      ]

  -- what is answered once the radius taken is known
  from : (rows : List (Row P)) (some : 1 ≤ t.settings.k) (days : Days t.day t.posts) (answers : List ℕ)
      (o : Option (Taken P))
      → Outcome dist metric counts t.settings t.posts (length t.posts) t.day (last_of 0 t.radii) o
      → Answered dist counts t (told_by (pick_from dist counts (view_of t rows) o))
      (written_by (pick_from dist counts (view_of t rows) o) answers)
  from rows some days answers None beats = record {
    beyond = λ _ choice few. beats choice (reach dist choice (window counts t)) few.1
        (choice_covers dist t.settings.k choice (window counts t) few);
    nothing = λ bad. let z : ◌≡◌ {A = ℕ} 0 1 = cc in absurd (omega arith);
    exactly = λ none. absurd (omega (arith, beats [] 0 (omega arith) (subst (Every (Near dist 0 [])) (sym none) tt)));
  }
  from rows some days answers (Some taken) passed =
      among dist metric law t some days taken passed
      (grain_by counts (length t.posts) t.day taken.row.lost) refl
      (used (grain_by counts (length t.posts) t.day taken.row.lost) taken.row) refl answers

  outcome : (rows : List (Row P)) → 1 ≤ length rows → Growing None (radii_of rows)
      → Every (Sound dist counts t.settings t.posts (length t.posts) t.day) rows
      → Outcome dist metric counts t.settings t.posts (length t.posts) t.day (last_of 0 (radii_of rows))
      (taken_after dist t.settings.k None rows)
  outcome [] some growing sound = absurd (omega arith)
  outcome (row ∷ rows) some growing sound = taken-first dist metric counts t.settings t.posts
      (length t.posts) t.day row rows growing sound

  pick_by : (b : View P) (k : Running dist counts t b) (answers work : List ℕ) (o : Option Refusal)
      → why_not_pick (view_of t k.rows) answers work ≡ o
      → Answered dist counts t
      (told_by (after o (pick_from dist counts (view_of t k.rows) (taken_after dist t.settings.k None k.rows))))
      (written_by
      (after o
      (pick_from dist counts (view_of t k.rows) (taken_after dist t.settings.k None k.rows))) answers)
  pick_by b k answers work (Some e) why = refused_by k.rows answers work e k.some k.sound
      (reason_tested (pick_tests (view_of t k.rows) answers work) e why)
  pick_by b k answers work None why =
      from k.rows k.judged.0 k.days answers (taken_after dist t.settings.k None k.rows)
      (subst
      (λ gs. Outcome dist metric counts t.settings t.posts (length t.posts) t.day (last_of 0 gs)
      (taken_after dist t.settings.k None k.rows))
      k.radii
      (outcome k.rows k.some k.growing k.sound))

  pub pick-holds : (b : View P) (answers work answers2 work2 : List ℕ) (r : Result Picked Refusal)
      → Running dist counts t b → PickRule dist counts b answers work r answers2 work2
      → Answered dist counts t r answers2
  pick-holds b answers work answers2 work2 r k rule =
      let v = view_of t k.rows in
      let here : PickRule dist counts v answers work r answers2 work2 = subst
      (λ w. PickRule dist counts w answers work r answers2 work2) k.same rule in
      let o = pick dist counts v answers work in
      subst (λ s. Answered dist counts t s answers2) (sym here.answer)
      (subst (λ ns. Answered dist counts t (told_by o) ns) (sym here.written)
      (pick_by b k answers work (why_not_pick v answers work) refl))
