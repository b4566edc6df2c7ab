-- A post to one radius keeps the invariant: the piece settles, and then refines.
use Rattle.std.proofs.Common.{◌≡◌, ℕ, suc, ◌*◌, ◌≤◌, eqb, List, length, Some, None, Option, sym, refl, subst, inl, inr, arith}
use Rattle.std.proofs.lemmas.Bool.{cases_lt, cases_Bool}
use Rattle.term.specs.Formulas.{Rule}
use Rattle.cover.specs.Distances.{Distance, Metric}
use Rattle.rules.proofs.Attracting.{grown, attracted}
use Rattle.rules.proofs.Changes.{none_passes}
use Rattle.rules.proofs.Enrolling.{enrolled_by}
use Rattle.rules.proofs.Cleaning.{Settled}
use Rattle.rules.proofs.Expiring.{expired}
use Rattle.rules.proofs.Histories.{Dated}
use Rattle.rules.proofs.Refining.{fine-taken, fine_new}
use Rattle.rules.proofs.Sound.{Sound}
use Rattle.rules.specs.Laws.{Lawful}
use Rattle.rules.specs.Steps.{within, step, expire, enrol, clean_up, settle_by, settle, refine_by, enter, post_row}
use Rattle.rules.specs.Views.{Settings, Entry, Row}
use Rattle.rules.specs.Words.{first_of}
use Rattle.rules.specs.declared.place.Place.{Place}

-- every step keeps the radius
clean_radius : {P : Type 0} (k : ℕ) (row : Row P) → (clean_up k row).radius ≡ row.radius
clean_radius k row = elim (cases_Bool (eqb (length row.attractors) (suc k)))
    [ inl e ↦ rw e refl | inr e ↦ rw e refl ]

settled_radius : {P : Type 0} (k : ℕ) (x : Place P) (row : Row P) (o : Option (Place P))
    → (settle_by k x row o).radius ≡ row.radius
settled_radius k x row (Some v) = refl
settled_radius k x row None = clean_radius k (enrol k x row)

refined_radius : {P : Type 0} (dist : Distance P) (limit s : ℕ) (x : Place P) (row : Row P) (o : Option (Entry P))
    → (refine_by dist limit s x row o).radius ≡ row.radius
refined_radius dist limit s x row (Some e) = refl
refined_radius dist limit s x row None = refl

pub posted-radius : {P : Type 0} (dist : Distance P) (counts : Rule) (set : Settings) (x : Place P) (row : Row P)
    → (post_row dist counts set x row).radius ≡ row.radius
posted-radius dist counts set x row =
    let old = expire counts x.arrival x.day row in
    let mid = settle dist set.k x old in
    let one = refined_radius dist set.fine_limit (step set.f mid.radius) x mid
    (first_of (λ e. within dist (step set.f mid.radius) e.first x) mid.fine) in
    let two = settled_radius set.k x old (first_of (λ v. within dist (2 * old.radius) v x) old.attractors) in
    cc

module _ {P : Type 0} (dist : Distance P) (metric : Metric dist) {counts : Rule} (law : Lawful counts)
    (set : Settings) (some : 1 ≤ set.fine_limit) (h : List (P × ℕ)) (x : Place P)
    (next : x.arrival ≡ suc (length h)) where
  settled : (row : Row P) (o : Option (Place P))
      → first_of (λ v. within dist (2 * row.radius) v x) row.attractors ≡ o
      → Sound dist counts set h x.arrival x.day row
      → Settled dist counts set.k set.fine_limit (step set.f row.radius) h x (settle_by set.k x row o)
  settled row (Some v) found s = record {
    coarse = attracted dist law h x next set.k row.radius row.attractors row.representatives v
        s.coarse found;
    fine = s.fine;
  }
  settled row None found s =
      enrolled_by dist metric law h x next set.k set.fine_limit (step set.f row.radius) row
      row.attractors refl (none_passes (λ v. within dist (2 * row.radius) v x) row.attractors found)
      s.coarse s.fine
      (elim (cases_lt set.k (length row.attractors))
      [ inl more ↦ inr (omega (arith, s.coarse.few)) | inr few ↦ inl few ])

  refined : (row : Row P) (o : Option (Entry P))
      → first_of (λ e. within dist (step set.f row.radius) e.first x) row.fine ≡ o
      → Settled dist counts set.k set.fine_limit (step set.f row.radius) h x row
      → Sound dist counts set (grown h x) x.arrival x.day
      (refine_by dist set.fine_limit (step set.f row.radius) x row o)
  refined row (Some e) found s = record {
    coarse = s.coarse;
    fine = fine-taken dist metric law h x next set.k set.fine_limit (step set.f row.radius)
        row.attractors row.fine row.lost e found s.fine;
  }
  refined row None found s = record {
    coarse = s.coarse;
    fine = fine_new dist metric law h x next set.k set.fine_limit (step set.f row.radius) row.attractors
        row.fine row.lost some s.fine;
  }

  entered : (row : Row P) → Sound dist counts set h x.arrival x.day row
      → Sound dist counts set (grown h x) x.arrival x.day (enter dist set x row)
  entered row s =
      let o = first_of (λ v. within dist (2 * row.radius) v x) row.attractors in
      let mid = settle_by set.k x row o in
      refined mid (first_of (λ e. within dist (step set.f mid.radius) e.first x) mid.fine) refl
      (subst (λ g. Settled dist counts set.k set.fine_limit (step set.f g) h x mid)
      (sym (settled_radius set.k x row o)) (settled row o refl s))

  -- a post, from the time before
  pub row-posted : (m n : ℕ) → Dated h m n → Dated h x.arrival x.day → m ≤ x.arrival → n ≤ x.day
      → (row : Row P) → Sound dist counts set h m n row
      → Sound dist counts set (grown h x) x.arrival x.day (post_row dist counts set x row)
  row-posted m n old new le le2 row s =
      entered (expire counts x.arrival x.day row)
      (expired dist law h m n x.arrival x.day old new le le2 set row s)
