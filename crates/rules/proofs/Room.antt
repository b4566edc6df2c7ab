-- Room: no list passes its part of the shelf, and with all the places that a book needs no call gives 4.
use Rattle.std.proofs.Common.{◌≡◌, ℕ, ◌+◌, ◌≤◌, Bool, true, eqb, List, [], ◌∷◌, length, drop, Some, None, Ok, Err, Option, Result, sym, ap, ◌∙◌, subst, inl, inr, arith}
use Rattle.std.specs.List.{AllByRecursion as Every}
use Rattle.std.proofs.lemmas.List.Elements.{length_all_zip}
use Rattle.std.proofs.ByRecursion.{All-weaker}
use Rattle.std.proofs.lemmas.List.{length-map, length-append}
use Rattle.std.proofs.lemmas.Bool.{ltb-true}
use Rattle.cover.specs.Distances.{Distance}
use Rattle.refusal.specs.declared.Refusal.{Refusal}
use Rattle.refusal.specs.declared.Refusal.TheVariants.{ShelfTooShort, ArrivalNotKept}
use Rattle.term.specs.Formulas.{Rule}
use Rattle.rules.proofs.Orphans.{Own, newer-all}
use Rattle.rules.proofs.Reasons.{reason_tested, why-after, why-ok_or}
use Rattle.rules.proofs.Sound.{Sound}
use Rattle.rules.proofs.Stages.{Running, Holds}
use Rattle.rules.specs.Calls.{radius_tests, short, post_tests, turn_tests, seek_tests, shelved, place_of, piece_of, pick_tests, pick, told_by, FindRule, HandOutRule}
use Rattle.rules.specs.Limits.{needed}
use Rattle.rules.specs.Picking.{grain_by, used, Taken, taken, Pick as Chosen, pick_among, pick_from}
use Rattle.rules.specs.Promises.{Story, why, RowFits, Fits}
use Rattle.rules.specs.Runs.{Stage, SettingUp, Opened}
use Rattle.rules.specs.Views.{Settings, Setup, Row, View}
use Rattle.rules.specs.Words.{Any, first_of, first_reason, after, ok_or}
use Rattle.rules.specs.declared.picked.Grain.{Grain}
use Rattle.rules.specs.declared.picked.Picked.{Picked}
use Rattle.rules.specs.declared.place.Place.{Place}

row_fits : {P : Type 0} (dist : Distance P) (counts : Rule) (set : Settings) (h : List (P × ℕ)) (m n : ℕ)
    (row : Row P)
    → Sound dist counts set h m n row → RowFits set row
row_fits dist counts set h m n row s =
    let split = s.coarse.split in
    let all : length row.representatives ≡ length split.orphans + length split.own = ap length
    split.is ∙ length-append split.orphans split.own in
    let owned = length_all_zip Own row.attractors split.own split.parts.owned in (
      omega (arith, s.coarse.few),
      omega
          (arith, s.coarse.few, split.few, newer-all split.orphans),
      s.fine.few,
    )

pub fits : {P : Type 0} (dist : Distance P) (counts : Rule) (t : Story P) (stage : Stage P)
    → Holds dist counts t stage → Fits stage
fits dist counts t (SettingUp u) k = tt
fits dist counts t (Opened b) k =
    subst (λ v. Every (RowFits v.settings) v.rows) (sym k.same)
    (All-weaker (Sound dist counts t.settings t.posts (length t.posts) t.day) (RowFits t.settings)
    (row_fits dist counts t.settings t.posts (length t.posts) t.day) k.rows k.sound)

-- where no other test refuses for want of places, the first one did
only : (x : Bool) (rest : List (Bool × Refusal)) → Every (λ r. r.1 ≡ ShelfTooShort → ⊥) rest
    → Any (λ r. (r.0 ≡ true) × (r.1 ≡ ShelfTooShort)) ((x, ShelfTooShort) ∷ rest) → x ≡ true
only x rest others a = elim a [ inl h ↦ h.0 | inr h ↦ absurd (never rest others h) ]
  where
    never : (rs : List (Bool × Refusal)) → Every (λ r. r.1 ≡ ShelfTooShort → ⊥) rs
        → Any (λ r. (r.0 ≡ true) × (r.1 ≡ ShelfTooShort)) rs → ⊥
    never [] others h = h
    never (r ∷ rs) others h = elim h [ inl k ↦ others.0 k.1 | inr k ↦ never rs others.1 k ]

same_why : {P : Type 0} (o : Result (Chosen P) Refusal) → why (told_by o) ≡ Some ShelfTooShort
    → why o ≡ Some ShelfTooShort
same_why (Ok p) e = e
same_why (Err d) e = e

module _ {P : Type 0} (dist : Distance P) (counts : Rule) (b : View P) where
  among_served : (t : Taken P) (grain : Grain) (xs : List (Place P))
      → why (pick_among dist b.settings t grain xs) ≡ Some ShelfTooShort → ⊥
  among_served t grain [] e = let z : ◌≡◌ {A = ℕ} 0 1 = cc in omega arith
  among_served t grain (x ∷ xs) e = let z : ◌≡◌ {A = ℕ} 0 1 = cc in omega arith

  from_served : (o : Option (Taken P)) → why (pick_from dist counts b o) ≡ Some ShelfTooShort → ⊥
  from_served None e = let z : ◌≡◌ {A = ℕ} 0 1 = cc in omega arith
  from_served (Some t) e = among_served t (grain_by counts b.posts b.day t.row.lost)
      (used (grain_by counts b.posts b.day t.row.lost) t.row) e

module _ {P : Type 0} (dist : Distance P) (counts : Rule) (t : Story P) (b : View P) (k : Running dist counts t b)
    (enough : needed t.settings (length t.radii) ≤ t.places) where
  -- with all the places that the book needs the shelf is not short
  not_short : short b ≡ true → ⊥
  not_short e =
      let f = subst (λ v. short v ≡ true) k.same e in
      let lt = ltb-true t.places (needed t.settings (length k.rows)) f in
      let len : length k.rows ≡ length t.radii = sym (length-map k.rows (λ r. r.radius)) ∙ ap length
      k.radii in
      let same : needed t.settings (length k.rows) ≡ needed t.settings (length t.radii) = ap
      (needed t.settings) len in
      omega arith

  -- a call whose tests give no other number 4 than the shelf's is served
  served : {X : Type 0} (tests : List (Bool × Refusal)) (r : Result X Refusal)
      → (Any (λ x. (x.0 ≡ true) × (x.1 ≡ ShelfTooShort)) tests → short b ≡ true) → (why r ≡ Some ShelfTooShort → ⊥)
      → why (after (first_reason tests) r) ≡ Some ShelfTooShort → ⊥
  served tests r only rest e =
      elim (why-after (first_reason tests) r ShelfTooShort e)
      [ inl h ↦ not_short (only (reason_tested tests ShelfTooShort h)) | inr h ↦ rest h ]

  -- a find and a hand out
  seek_served : {X : Type 0} (o : Option X)
      → why (after (first_reason (seek_tests b)) (ok_or ArrivalNotKept o)) ≡ Some ShelfTooShort → ⊥
  seek_served o e =
      served (seek_tests b) (ok_or ArrivalNotKept o) (only (short b) [] tt)
      (λ h. let same = why-ok_or ArrivalNotKept o ShelfTooShort h in let z : ◌≡◌ {A = ℕ} 0 1 = cc in omega arith) e

  pub post_served : (d : ℕ) (r : Result (Unit {0}) Refusal) → r ≡ after (first_reason (post_tests b d)) (Ok tt)
      → why r ≡ Some ShelfTooShort → ⊥
  post_served d r is e =
      served {X = Unit {0}} (post_tests b d) (Ok tt)
      (only (short b) (drop 1 (post_tests b d)) (
        (λ h. let z : ◌≡◌ {A = ℕ} 0 1 = cc in omega arith),
        ((λ h. let z : ◌≡◌ {A = ℕ} 0 1 = cc in omega arith), tt),
      ))
      (λ h. let z : ◌≡◌ {A = ℕ} 0 1 = cc in omega arith) (subst (λ s. why s ≡ Some ShelfTooShort) is e)

  pub turn_served : (d : ℕ) (r : Result (Unit {0}) Refusal) → r ≡ after (first_reason (turn_tests b d)) (Ok tt)
      → why r ≡ Some ShelfTooShort → ⊥
  turn_served d r is e =
      served {X = Unit {0}} (turn_tests b d) (Ok tt)
      (only (short b) (drop 1 (turn_tests b d)) ((λ h. let z : ◌≡◌ {A = ℕ} 0 1 = cc in omega arith), tt))
      (λ h. let z : ◌≡◌ {A = ℕ} 0 1 = cc in omega arith) (subst (λ s. why s ≡ Some ShelfTooShort) is e)

  pub find_served : (a : ℕ) (r : Result ℕ Refusal) → FindRule b a r → why r ≡ Some ShelfTooShort → ⊥
  find_served a r is e = seek_served (place_of (first_of (λ x. eqb x.1.arrival a) (shelved b)))
      (subst (λ s. why s ≡ Some ShelfTooShort) is e)

  pub hand_served : (at : ℕ) (r : Result P Refusal) → HandOutRule b at r → why r ≡ Some ShelfTooShort → ⊥
  hand_served at r is e = seek_served (piece_of (first_of (λ x. eqb x.0 at) (shelved b)))
      (subst (λ s. why s ≡ Some ShelfTooShort) is e)

  pub pick_served : (answers work : List ℕ) (r : Result Picked Refusal) → r ≡ told_by (pick dist counts b answers work)
      → why r ≡ Some ShelfTooShort → ⊥
  pick_served answers work r is e =
      served (pick_tests b answers work) (pick_from dist counts b (taken dist b))
      (only (short b) (drop 1 (pick_tests b answers work)) (
        (λ h. let z : ◌≡◌ {A = ℕ} 0 1 = cc in omega arith),
        ((λ h. let z : ◌≡◌ {A = ℕ} 0 1 = cc in omega arith), tt),
      ))
      (from_served dist counts b (taken dist b))
      (same_why (pick dist counts b answers work) (subst (λ s. why s ≡ Some ShelfTooShort) is e))

-- setting up never refuses for want of places
pub radius_served : (u : Setup) (g : ℕ) (r : Result (Unit {0}) Refusal)
    → r ≡ after (first_reason (radius_tests u g)) (Ok tt) → why r ≡ Some ShelfTooShort → ⊥
radius_served u g r is e =
    elim (why-after (first_reason (radius_tests u g)) (Ok tt) ShelfTooShort
    (subst (λ s. why s ≡ Some ShelfTooShort) is e)) [
      | inl h ↦ elim (reason_tested (radius_tests u g) ShelfTooShort h) [
        | inl k ↦ let f = k.1 in let z : ◌≡◌ {A = ℕ} 0 1 = cc in omega arith
        | inr k ↦ elim k [ inl l ↦ let f = l.1 in let z : ◌≡◌ {A = ℕ} 0 1 = cc in omega arith | inr l ↦ l ]
      ]
      | inr h ↦ let z : ◌≡◌ {A = ℕ} 0 1 = cc in omega arith
    ]
