-- From what a pick did to its rule, and to what holds of it in a run.
use Rattle.std.proofs.Common.{◌≡◌, ℕ, ◌≤◌, false, ◌||◌, ltb, List, ◌∷◌, length, Some, None, Err, Option, Result, sym, refl, ap, ◌∙◌, subst}
use Rattle.std.proofs.lemmas.Bool.{ltb-false, or_parts}
use Rattle.picking.specs.Trials.{first_passing, taken_at}
use Rattle.picking.proofs.Takings.{taken-seen}
use Rattle.row.specs.Seen.{seen_rows}
use Rattle.row.specs.declared.kept.Row.{Row}
use Rattle.row.specs.declared.settings.Settings.{Settings}
use Rattle.cover.specs.Distances.{Distance, Metric}
use Rattle.refusal.specs.declared.Refusal.{Refusal}
use Rattle.refusal.specs.declared.Refusal.TheVariants.{ListTooShort, NoRadiusPasses, ShelfTooShort}
use Rattle.rules.specs.Calls.{PickRule, Spared, pick, short, told_by, why_not_pick, written_by}
use Rattle.rules.specs.Laws.{Lawful}
use Rattle.rules.specs.Limits.{work_needed}
use Rattle.rules.specs.Picking.{Taken, pick_from, taken}
use Rattle.rules.specs.Picking as rule
use Rattle.rules.specs.Promises.{Answered, Served, story}
use Rattle.rules.specs.Runs.{Event, Opened, Pick, Reached}
use Rattle.rules.specs.Views.{View}
use Rattle.rules.specs.Words.{after}
use Rattle.rules.specs.declared.picked.Picked.{Picked}
use Rattle.rules.specs.declared.place.Place.{Place}
use Rattle.rules.proofs.Upheld.{runs_hold}
use Rattle.term.specs.Formulas.{Rule}
use Rattle.shelf.specs.Picks.{Among, standing}
use Rattle.book.proofs.Refused.{unrefused}
use Rattle.book.proofs.Sought.{seen-radii}

rule_from : {P : Type 0} (dist : Distance P) (counts : Rule) (b : View P) (answers work : List ℕ) (p : Result (rule.Pick P) Refusal) (r : Result Picked Refusal) (answers2 work2 : List ℕ)
    → p ≡ pick dist counts b answers work → Among p answers work r answers2 work2 → PickRule dist counts b answers work r answers2 work2
rule_from dist counts b answers work p r answers2 work2 e a = record {
  answer = a.answer ∙ ap told_by e;
  written = a.written ∙ ap (λ q. written_by q answers) e;
  spared = subst (λ q. Spared q work work2) e a.spared;
}

pub pick-refused : {P : Type 0} (dist : Distance P) (counts : Rule) (b : View P) (answers work : List ℕ) (e : Refusal) → why_not_pick b answers work ≡ Some e
    → PickRule dist counts b answers work (Err e) answers work
pick-refused dist counts b answers work e q =
    rule_from dist counts b answers work (Err e) (Err e) answers work
    (ap (λ o. after o (pick_from dist counts b (taken dist b))) (sym q))
    (record { answer = refl; written = refl; spared = refl })

pick_from_lem : {P : Type 0} (dist : Distance P) (counts : Rule) (b : View P) (answers work : List ℕ) (t : Option (Taken P)) (r : Result Picked Refusal) (answers2 work2 : List ℕ)
    → why_not_pick b answers work ≡ None → taken dist b ≡ t → Among (pick_from dist counts b t) answers work r answers2 work2
    → PickRule dist counts b answers work r answers2 work2
pick_from_lem dist counts b answers work t r answers2 work2 q e a =
    rule_from dist counts b answers work (pick_from dist counts b t) r answers2 work2
    (ap (pick_from dist counts b) (sym e) ∙ ap (λ o. after o (pick_from dist counts b (taken dist b))) (sym q))
    a

-- from what was read by the radii
module _ {P : Type 0} (dist : Distance P) (counts : Rule) (s t : Settings) (rows rs : List Row) (p d : ℕ) (places xs : List (Place P)) (answers work : List ℕ) (e1 : t ≡ s) (e2 : rs ≡ rows) (e3 : xs ≡ places) (q : why_not_pick (standing s rows p d places) answers work ≡ None) where
  takes : (o : Option ℕ) → o ≡ first_passing dist t.k (seen_rows t rs xs) → taken dist (standing s rows p d places) ≡ taken_at s rows places o
  takes o e =
      taken-seen dist (standing s rows p d places) s rows places o refl refl
      (e ∙ ap (λ (u : Settings). first_passing dist u.k (seen_rows u rs xs)) e1 ∙ ap (first_passing dist s.k) (seen-radii s s rows rs places xs refl e2 e3))

  pub pick_made : (j : ℕ) (r : Result Picked Refusal) (answers2 work2 : List ℕ) → Some j ≡ first_passing dist t.k (seen_rows t rs xs)
      → Among (pick_from dist counts (standing s rows p d places) (taken_at s rows places (Some j))) answers work r answers2 work2
      → PickRule dist counts (standing s rows p d places) answers work r answers2 work2
  pick_made j r answers2 work2 e a =
      pick_from_lem dist counts (standing s rows p d places) answers work (taken_at s rows places (Some j)) r answers2 work2 q (takes (Some j) e) a

  pub pick_none : None ≡ first_passing dist t.k (seen_rows t rs xs) → PickRule dist counts (standing s rows p d places) answers work (Err NoRadiusPasses) answers work
  pick_none e =
      pick_from_lem dist counts (standing s rows p d places) answers work None (Err NoRadiusPasses) answers work q (takes None e)
      (record { answer = refl; written = refl; spared = refl })

-- a pick that is not refused at once has its places and its lists
pub pick-room : {P : Type 0} (b : View P) (answers work : List ℕ) → why_not_pick b answers work ≡ None
    → (false ≡ short b) × (b.settings.k ≤ length answers) × (work_needed b.settings ≤ length work)
pick-room b answers work q =
    let one = unrefused (short b) ShelfTooShort _ q in
    let two = unrefused (ltb (length answers) b.settings.k || ltb (length work) (work_needed b.settings)) ListTooShort _ one.1 in
    let both = or_parts (ltb (length answers) b.settings.k) (ltb (length work) (work_needed b.settings)) two.0 in
    (sym one.0, ltb-false (length answers) b.settings.k both.0, ltb-false (length work) (work_needed b.settings) both.1)

pub pick-holds : {P : Type 0} (dist : Distance P) → Metric dist → (counts : Rule) → Lawful counts → (es : List (Event P)) (b : View P)
    (answers work : List ℕ) (r : Result Picked Refusal) (answers2 : List ℕ)
    → Reached dist counts (Pick answers work r answers2 ∷ es) (Opened b)
    → Answered dist counts (story es) r answers2 × Served (story es) (Pick answers work r answers2)
pick-holds {P} dist metric counts law es b answers work r answers2 run =
    let all = runs_hold P dist metric counts law (Pick answers work r answers2 ∷ es) (Opened b) run in
    (all.0.0, all.0.1)
