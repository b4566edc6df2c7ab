-- Representatives are orphans, whose attractors are gone, and then one of its own for each attractor, in order.
-- Few orphans are newer than an attractor, so that few are left when it goes.
use Rattle.std.proofs.Common.{◌≡◌, ℕ, suc, ◌+◌, ◌<◌, ◌≤◌, Bool, true, false, cond, leb, List, [], ◌∷◌, ◌++◌, length, filter, sym, refl, ap, ◌∙◌, subst, inl, inr, arith}
use Rattle.std.specs.List.{AllZip, AllByRecursion as Every}
use Rattle.std.proofs.lemmas.List.Elements.{filter-append}
use Rattle.std.proofs.ByRecursion.{All-weaker, All-push}
use Rattle.std.proofs.lemmas.List.{append_assoc}
use Rattle.std.proofs.lemmas.Bool.{cases_Bool, cases_lt, both_ways}
use Rattle.std.proofs.lemmas.Bool.Decides.{leb_tells}
use Rattle.rules.proofs.Somes.{Pairwise, all_parts, kept_all, all_kept}
use Rattle.rules.specs.declared.place.Place.{Place}

-- how many have arrival t or a later one
abbrev pub newer : {P : Type 0} → ℕ → List (Place P) → ℕ
newer t [] = 0
newer t (x ∷ xs) = cond (leb t x.arrival) 1 0 + newer t xs

-- the orphans newer than the attractor at position i, and those up to i, are at most k + 1
abbrev pub FewAt : {P : Type 0} → ℕ → ℕ → List (Place P) → List (Place P) → Type 0
FewAt k i orphans [] = Unit {0}
FewAt k i orphans (v ∷ vs) = (i + newer v.arrival orphans ≤ k) × FewAt k (suc i) orphans vs

-- x is the representative of v
abbrev pub Own : {P : Type 0} → Place P → Place P → Type 0
Own v x = (x.attractor ≡ v.arrival) × (v.arrival ≤ x.arrival)

abbrev pub Rising : {P : Type 0} → List (Place P) → Type 0
Rising xs = Pairwise (λ v w. v.arrival < w.arrival) xs

pub record Parts {P : Type 0} (k : ℕ) (orphans att own : List (Place P)) : Type 0 where
  pub few_at : FewAt k 0 orphans att
  pub below : Every (λ v. Every (λ x. x.attractor < v.arrival) orphans) att
  pub owned : AllZip Own att own

-- of the orphans as new as t there are few; with t = 0 of all
pub record Split {P : Type 0} (k t : ℕ) (att rep : List (Place P)) : Type 0 where
  pub orphans : List (Place P)
  pub own : List (Place P)
  pub is : rep ≡ orphans ++ own
  pub few : newer t orphans ≤ suc k
  pub parts : Parts k orphans att own

module _ {P : Type 0} where
  pub newer-all : (xs : List (Place P)) → newer 0 xs ≡ length xs
  newer-all [] = refl
  newer-all (x ∷ xs) = elim (leb_tells 0 x.arrival)
      [ inl t ↦ rw t.0 (omega (arith, newer-all xs)) | inr t ↦ absurd (omega (arith, t.1)) ]

  newer_push : (t : ℕ) (xs : List (Place P)) (x : Place P) → newer t (xs ++ (x ∷ [])) ≤ suc (newer t xs)
  newer_push t [] x = elim (cases_Bool (leb t x.arrival))
      [ inl e ↦ rw e (omega arith) | inr e ↦ rw e (omega arith) ]
  newer_push t (y ∷ ys) x = omega (arith, newer_push t ys x)

  pub newer_none : (t : ℕ) (xs : List (Place P)) → Every (λ x. x.arrival < t) xs → newer t xs ≡ 0
  newer_none t [] h = refl
  newer_none t (x ∷ xs) h = elim (leb_tells t x.arrival)
      [ inl e ↦ absurd (omega (arith, e.1, h.0)) | inr e ↦ rw e.0 (omega (arith, newer_none t xs h.1)) ]

  newer_kept : (f : Place P → Bool) (t : ℕ) (xs : List (Place P)) → newer t (filter f xs) ≤ newer t xs
  newer_kept f t [] = omega arith
  newer_kept f t (x ∷ xs) = elim (cases_Bool (f x))
      [ inl e ↦ rw e (omega (arith, newer_kept f t xs)) | inr e ↦ rw e (omega (arith, newer_kept f t xs)) ]

  -- where only what is as new as t is kept, all that is kept are few
  newer_only : (f : Place P → Bool) (t : ℕ) (xs : List (Place P)) → Every (λ x. f x ≡ true → t ≤ x.arrival) xs
      → newer 0 (filter f xs) ≤ newer t xs
  newer_only f t [] h = omega arith
  newer_only f t (x ∷ xs) h =
      let rest = newer_only f t xs h.1 in
      elim (cases_Bool (f x)) [
        | inl e ↦
            rw e (elim (leb_tells 0 x.arrival) [
              | inl z ↦ elim (leb_tells t x.arrival)
                  [ inl u ↦ rw (z.0, u.0) (omega arith) | inr u ↦ absurd (omega (arith, u.1, h.0 e)) ]
              | inr z ↦ absurd (omega (arith, z.1))
            ])
        | inr e ↦ rw e (omega arith)
      ]

  few_at_push : (k i : ℕ) (orphans vs : List (Place P)) (x : Place P) → FewAt k (suc i) orphans vs
      → FewAt k i (orphans ++ (x ∷ [])) vs
  few_at_push k i orphans [] x h = tt
  few_at_push k i orphans (v ∷ vs) x h =
      (omega (arith, h.0, newer_push v.arrival orphans x), few_at_push k (suc i) orphans vs x h.1)

  few_at_kept : (f : Place P → Bool) (k i : ℕ) (orphans vs : List (Place P)) → FewAt k i orphans vs
      → FewAt k i (filter f orphans) vs
  few_at_kept f k i orphans [] h = tt
  few_at_kept f k i orphans (v ∷ vs) h =
      (omega (arith, h.0, newer_kept f v.arrival orphans), few_at_kept f k (suc i) orphans vs h.1)

  pub few_at_last : (k i : ℕ) (orphans vs : List (Place P)) (x : Place P) → FewAt k i orphans vs
      → i + length vs + newer x.arrival orphans ≤ k → FewAt k i orphans (vs ++ (x ∷ []))
  few_at_last k i orphans [] x h last = (omega arith, tt)
  few_at_last k i orphans (v ∷ vs) x h last = (h.0, few_at_last k (suc i) orphans vs x h.1 (omega arith))

  -- the oldest attractor goes: its own representative becomes an orphan
  parts_trim : (k : ℕ) (orphans att own : List (Place P)) (w x : Place P) → Rising (w ∷ att)
      → Parts k orphans (w ∷ att) (x ∷ own) → Parts k (orphans ++ (x ∷ [])) att own
  parts_trim k orphans att own w x rising p = record {
    few_at = few_at_push k 0 orphans att x p.few_at.1;
    below = go att rising.0 p.below.1;
    owned = p.owned.1;
  }
    where
      go : (vs : List (Place P)) → Every (λ v. w.arrival < v.arrival) vs
          → Every (λ v. Every (λ y. y.attractor < v.arrival) orphans) vs
          → Every (λ v. Every (λ y. y.attractor < v.arrival) (orphans ++ (x ∷ []))) vs
      go [] r b = tt
      go (v ∷ vs) r b = (
        All-push (λ y. y.attractor < v.arrival) orphans x b.0 (omega (arith, r.0, p.owned.0.0)),
        go vs
            r.1 b.1,
      )

  newer-trim : (k : ℕ) (orphans att own : List (Place P)) (w x : Place P) → Parts k orphans (w ∷ att) (x ∷ own)
      → newer w.arrival (orphans ++ (x ∷ [])) ≤ suc k
  newer-trim k orphans att own w x p = omega (arith, p.few_at.0, newer_push w.arrival orphans x)

  split_trim_parts : (k : ℕ) (w : Place P) (att orphans own rep : List (Place P)) → Rising (w ∷ att)
      → rep ≡ orphans ++ own → Parts k orphans (w ∷ att) own → Split k w.arrival att rep
  split_trim_parts k w att orphans [] rep rising is p = elim p.owned [ ]
  split_trim_parts k w att orphans (x ∷ own) rep rising is p = record {
    orphans = orphans ++ (x ∷ []);
    own = own;
    is = is ∙ sym (append_assoc orphans (x ∷ []) own);
    few = newer-trim k orphans att own w x p;
    parts = parts_trim k orphans att own w x rising p;
  }

  pub split_trim : (k t : ℕ) (w : Place P) (att rep : List (Place P)) → Rising (w ∷ att) → Split k t (w ∷ att) rep
      → Split k w.arrival att rep
  split_trim k t w att rep rising s = split_trim_parts k w att s.orphans s.own rep rising s.is s.parts

  -- A filter that keeps whatever is newer than something it keeps.
  module _ (f : Place P → Bool) (Here : Place P → Type 0)
      (keeps : (v w : Place P) → Here v → Here w → v.arrival ≤ w.arrival → f v ≡ true → f w ≡ true) where
    own_stays : (att own : List (Place P)) → Every Here att → Every Here own → AllZip Own att own
        → Every (λ v. f v ≡ true) att → Every (λ x. f x ≡ true) own
    own_stays [] [] ha ho e l = tt
    own_stays [] (x ∷ own) ha ho e l = elim e [ ]
    own_stays (v ∷ att) [] ha ho e l = elim e [ ]
    own_stays (v ∷ att) (x ∷ own) ha ho e l =
        (keeps v x ha.0 ho.0 e.0.1 l.0, own_stays att own ha.1 ho.1 e.1 l.1)

    -- all attractors stay
    pub split_live : (k t : ℕ) (orphans att own : List (Place P)) → newer t orphans ≤ suc k
        → Every (λ x. f x ≡ true → t ≤ x.arrival) orphans → Every (λ v. f v ≡ true) att → Every Here att → Every Here own
        → Parts k orphans att own → Split k 0 att (filter f (orphans ++ own))
    split_live k t orphans att own few only live ha ho p = record {
      orphans = filter f orphans;
      own = own;
      is = filter-append f orphans own ∙ ap (λ ys. filter f orphans ++ ys)
          (kept_all f own (own_stays att own ha ho p.owned live));
      few = omega (arith, few, newer_only f t orphans only);
      parts = record {
        few_at = few_at_kept f k 0 orphans att p.few_at;
        below = All-weaker (λ v. Every (λ x. x.attractor < v.arrival) orphans)
            (λ v. Every (λ x. x.attractor < v.arrival) (filter f orphans))
            (λ v h. all_kept (λ x. x.attractor < v.arrival) f orphans h) att p.below;
        owned = p.owned;
      };
    }

    later_stay : (w : Place P) (vs : List (Place P)) → Here w → f w ≡ true → Every (λ v. w.arrival < v.arrival) vs
        → Every Here vs → Every (λ v. f v ≡ true) vs
    later_stay w [] hw e r h = tt
    later_stay w (v ∷ vs) hw e r h = (keeps w v hw h.0 (omega (arith, r.0)) e, later_stay w vs hw e r.1 h.1)

    not_older : (w : Place P) (ys : List (Place P)) → Here w → f w ≡ false → Every Here ys
        → Every (λ y. f y ≡ true → w.arrival ≤ y.arrival) ys
    not_older w [] hw e h = tt
    not_older w (y ∷ ys) hw e h = (
      (λ live. elim (cases_lt y.arrival w.arrival) [
        | inl lt ↦ absurd
            (both_ways (f w) e (keeps y w h.0 hw (omega arith) live))
        | inr le ↦ le
      ]),
      not_older w ys hw e
          h.1,
    )

    split_kept : (k t : ℕ) (orphans att own : List (Place P)) → newer t orphans ≤ suc k
        → Every (λ x. f x ≡ true → t ≤ x.arrival) orphans → Rising att → Every Here att → Every Here orphans → Every Here own
        → Parts k orphans att own → Split k 0 (filter f att) (filter f (orphans ++ own))
    split_kept k t orphans [] own few only rising ha hr ho p = split_live k t orphans [] own few only tt tt ho p
    split_kept k t orphans (w ∷ att) [] few only rising ha hr ho p = elim p.owned [ ]
    split_kept k t orphans (w ∷ att) (x ∷ own) few only rising ha hr ho p =
        elim (cases_Bool (f w)) [
          | inl e ↦
              let stay : Every (λ v. f v ≡ true) (w ∷ att) = (e, later_stay w att ha.0 e rising.0 ha.1) in
              subst (λ vs. Split k 0 vs (filter f (orphans ++ (x ∷ own)))) (sym (kept_all f (w ∷ att) stay))
              (split_live k t orphans (w ∷ att) (x ∷ own) few only stay ha ho p)
          | inr e ↦
              rw e (subst (λ ys. Split k 0 (filter f att) (filter f ys)) (append_assoc orphans (x ∷ []) own)
              (split_kept k w.arrival (orphans ++ (x ∷ [])) att own (newer-trim k orphans att own w x p)
              (not_older w (orphans ++ (x ∷ [])) ha.0 e (All-push Here orphans x hr ho.0))
              rising.1 ha.1 (All-push Here orphans x hr ho.0) ho.1
              (parts_trim k orphans att own w x rising p)))
        ]

    -- attractors and representatives filtered alike
    pub split_by : (k : ℕ) (att rep : List (Place P)) → Every Here att → Every Here rep → Rising att → Split k 0 att rep
        → Split k 0 (filter f att) (filter f rep)
    split_by k att rep ha hr rising s =
        let h = all_parts Here s.orphans s.own (subst (Every Here) s.is hr) in
        subst (λ ys. Split k 0 (filter f att) (filter f ys)) (sym s.is)
        (split_kept k 0 s.orphans att s.own s.few
        (All-weaker Here (λ x. f x ≡ true → 0 ≤ x.arrival) (λ x h e. omega arith) s.orphans h.0) rising ha
        h.0 h.1 s.parts)
