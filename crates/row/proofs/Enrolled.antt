-- The order in which the code enrols a piece leads where the rules' order leads.
use Rattle.std.proofs.Common.{◌≡◌, ℕ, suc, ◌+◌, ◌<◌, ◌≤◌, Bool, true, false, cond, eqb, leb, List, [], ◌∷◌, ◌++◌, length, filter, sym, refl, ap, ◌∙◌, arith, length-append}
use Rattle.std.proofs.lemmas.List.Elements.{filter-append}
use Rattle.std.proofs.lemmas.Bool.{eq-eqb, eqb-false, eqb-true, ne_eqb}
use Rattle.rules.specs.Steps.{clean_up, enrol, oldest, standing_for, trim}
use Rattle.rules.specs.Views.{Row}
use Rattle.rules.specs.declared.place.Place.{Place}
use Rattle.row.specs.Edits.{less_oldest, stands_with, with_attractors, with_representatives}

-- trimming before or after the new one
trim-first : {P : Type 0} (k : ℕ) (xs : List (Place P)) (x : Place P) → less_oldest k xs ++ (x ∷ []) ≡ trim k (xs ++ (x ∷ []))
trim-first {P} k [] x =
    let none : List (Place P) = [] in
    ap (λ b. cond b none none ++ (x ∷ [])) (ne_eqb 0 (suc k) (omega arith))
    ∙ ap (λ b. cond b none (x ∷ [])) (sym (ne_eqb 1 (suc (suc k)) (omega arith)))
trim-first k (v ∷ vs) x = go (eqb (length vs) k) refl
  where
    go : (b : Bool) → eqb (length vs) k ≡ b → less_oldest k (v ∷ vs) ++ (x ∷ []) ≡ trim k (v ∷ (vs ++ (x ∷ [])))
    go true e =
        let n : length vs ≡ k = eqb-true (length vs) k e in
        let m : length (vs ++ (x ∷ [])) ≡ suc k = length-append vs (x ∷ []) ∙ omega arith in
        ap (λ b. cond b vs (v ∷ vs) ++ (x ∷ [])) (eq-eqb (suc (length vs)) (suc k) (omega arith))
        ∙ ap (λ b. cond b (vs ++ (x ∷ [])) (v ∷ (vs ++ (x ∷ [])))) (sym (eq-eqb (suc (length (vs ++ (x ∷ [])))) (suc (suc k)) (omega arith)))
    go false e =
        let n : length vs ≡ k → ⊥ = eqb-false (length vs) k e in
        let m : length (vs ++ (x ∷ [])) ≡ suc (length vs) = length-append vs (x ∷ []) ∙ omega arith in
        ap (λ b. cond b vs (v ∷ vs) ++ (x ∷ [])) (ne_eqb (suc (length vs)) (suc k) (λ q. n (omega arith)))
        ∙ ap (λ b. cond b (vs ++ (x ∷ [])) (v ∷ (vs ++ (x ∷ [])))) (sym (ne_eqb (suc (length (vs ++ (x ∷ [])))) (suc (suc k)) (λ q. n (omega arith))))

-- a row with a new attractor, before its representative is stored
abbrev pub enlisted : {P : Type 0} → ℕ → Place P → Row P → Row P
enlisted k x row = clean_up k (with_attractors (less_oldest k row.attractors ++ (x ∷ [])) row)

-- and with it, where it stands
abbrev pub seated : {P : Type 0} → Bool → Place P → Row P → Row P
seated b x row = with_representatives (row.representatives ++ cond b (standing_for x.arrival x ∷ []) []) row

-- cleaning up before or after the representative is stored
clean_first : {P : Type 0} (k : ℕ) (x : Place P) (row : Row P) (b : Bool) → eqb (length row.attractors) (suc k) ≡ b
    → seated (stands_with k x.arrival (clean_up k row).attractors) x (clean_up k row)
    ≡ clean_up k (with_representatives (row.representatives ++ (standing_for x.arrival x ∷ [])) row)
clean_first {P} k x row true e =
    let o = oldest row.attractors in
    let new : Place P = standing_for x.arrival x in
    let all : Row P = with_representatives (row.representatives ++ (new ∷ [])) row in
    let f : Place P → Bool = λ y. leb o y.arrival in
    let clean : Row P → Row P = λ r. record {
      radius = r.radius;
      attractors = r.attractors;
      representatives = filter f r.representatives;
      fine = filter (λ e. leb o e.latest.arrival) r.fine;
      lost = r.lost;
    } in
    ap (λ c. seated (stands_with k x.arrival (cond c (clean row) row).attractors) x (cond c (clean row) row)) e
    ∙ ap (λ c. seated (cond c (leb o x.arrival) true) x (clean row)) e
    ∙ ap (λ xs. with_representatives xs (clean row)) (sym (filter-append f row.representatives (new ∷ [])))
    ∙ ap (λ c. cond c (clean all) all) (sym e)
clean_first {P} k x row false e =
    let o = oldest row.attractors in
    let new : Place P = standing_for x.arrival x in
    let all : Row P = with_representatives (row.representatives ++ (new ∷ [])) row in
    let f : Place P → Bool = λ y. leb o y.arrival in
    let clean : Row P → Row P = λ r. record {
      radius = r.radius;
      attractors = r.attractors;
      representatives = filter f r.representatives;
      fine = filter (λ e. leb o e.latest.arrival) r.fine;
      lost = r.lost;
    } in
    ap (λ c. seated (stands_with k x.arrival (cond c (clean row) row).attractors) x (cond c (clean row) row)) e
    ∙ ap (λ c. seated (cond c (leb o x.arrival) true) x row) e
    ∙ ap (λ c. cond c (clean all) all) (sym e)

pub enrolled : {P : Type 0} (k : ℕ) (x : Place P) (row : Row P)
    → seated (stands_with k x.arrival (enlisted k x row).attractors) x (enlisted k x row) ≡ clean_up k (enrol k x row)
enrolled k x row =
    clean_first k x (with_attractors (less_oldest k row.attractors ++ (x ∷ [])) row) _ refl
    ∙ ap (λ xs. clean_up k (with_representatives (row.representatives ++ (standing_for x.arrival x ∷ [])) (with_attractors xs row))) (trim-first k row.attractors x)

-- the three steps before the representative
pub enlisted_by : {P : Type 0} (k : ℕ) (x : Place P) (r0 r1 r2 r3 : Row P)
    → r1 ≡ with_attractors (less_oldest k r0.attractors) r0
    → r2 ≡ with_attractors (r1.attractors ++ (x ∷ [])) r1
    → r3 ≡ clean_up k r2
    → r3 ≡ enlisted k x r0
enlisted_by k x r0 r1 r2 r3 e1 e2 e3 =
    e3 ∙ ap (clean_up k) (e2 ∙ ap (λ r. with_attractors (r.attractors ++ (x ∷ [])) r) e1)

-- where the piece stands, and its representative is stored if there is room
pub enrol_stands : {P : Type 0} (k n room : ℕ) (x z : Place P) (r0 r3 r4 : Row P)
    → r3 ≡ enlisted k x r0
    → true ≡ stands_with k x.arrival r3.attractors
    → z ≡ standing_for x.arrival x
    → n ≡ length r3.representatives
    → (n < room → r4 ≡ with_representatives (r3.representatives ++ (z ∷ [])) r3)
    → length (clean_up k (enrol k x r0)).representatives ≤ room
    → r4 ≡ clean_up k (enrol k x r0)
enrol_stands {P} k n room x z r0 r3 r4 e b new len store fits =
    let all : seated true x r3 ≡ clean_up k (enrol k x r0) =
    ap (λ c. seated c x r3) b
    ∙ ap (λ r. seated (stands_with k x.arrival r.attractors) x r) e
    ∙ enrolled k x r0 in
    let long : length (clean_up k (enrol k x r0)).representatives ≡ length r3.representatives + 1 =
    ap (λ r. length r.representatives) (sym all) ∙ length-append r3.representatives (standing_for x.arrival x ∷ []) in
    store (omega arith) ∙ ap (λ y. with_representatives (r3.representatives ++ (y ∷ [])) r3) new ∙ all
