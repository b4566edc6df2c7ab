-- An attractor takes the new piece: its representative becomes the piece, and the invariant holds with one post more.
use Rattle.std.proofs.Common.{◌≡◌, ℕ, suc, ◌*◌, ◌<◌, ◌≤◌, Bool, true, false, eqb, List, [], ◌∷◌, ◌++◌, length, Some, sym, refl, ap, ◌∙◌, subst, inl, inr, arith}
use Rattle.std.specs.List.{AllZip, AllByRecursion as Every}
use Rattle.std.proofs.ByRecursion.{All-weaker}
use Rattle.std.proofs.lemmas.Bool.{leb-true, eqb-true, eq-eqb, ne_eqb}
use Rattle.term.specs.Formulas.{Rule}
use Rattle.cover.specs.Distances.{Distance}
use Rattle.rules.proofs.Changes.{first_is, first_any, all_changed, changed_past, each_changed, any_new, any_changed}
use Rattle.rules.proofs.Histories.{arrived_low}
use Rattle.rules.proofs.Orphans.{Own, Split}
use Rattle.rules.proofs.Sound.{Known, Living, Through, Tied, Serves, Relevant, Coarse}
use Rattle.rules.specs.Laws.{Lawful}
use Rattle.rules.specs.Promises.{Arrived, last, older}
use Rattle.rules.specs.Steps.{within, standing_for}
use Rattle.rules.specs.Words.{Any, first_of, change_first}
use Rattle.rules.specs.declared.place.Place.{Place}

-- y stands for v
abbrev pub own_of : {P : Type 0} → Place P → Place P → Bool
own_of v y = eqb y.attractor v.arrival

-- x in the place of y
abbrev pub renew : {P : Type 0} → Place P → Place P → Place P
renew x y = standing_for y.attractor x

-- the posts with x as the newest
abbrev pub grown : {P : Type 0} → List (P × ℕ) → Place P → List (P × ℕ)
grown h x = (x.piece, x.day) ∷ h

module _ {P : Type 0} (dist : Distance P) (counts : Rule) (h : List (P × ℕ)) (x : Place P) where
  pub through_grown : (r t : ℕ) (q : P) → Through dist h r t q → Through dist (grown h x) r t q
  through_grown r t q w = (w.0, w.1, older w.2, w.3)

  pub living_grown : (m n : ℕ) (y : Place P) → Living counts h m n y → Living counts (grown h x) m n y
  living_grown m n y l = (older l.0, l.1)

  pub tied_grown : (g m n : ℕ) (y : Place P) → Tied dist counts g h m n y → Tied dist counts g (grown h x) m n y
  tied_grown g m n y l = (living_grown m n y l.0, through_grown (2 * g) y.attractor y.piece l.1)

  pub serves_grown : (g : ℕ) (q : P) (a : ℕ) (y : Place P) → Serves dist g h q a y → Serves dist g (grown h x) q a y
  serves_grown g q a y s = (s.0, through_grown (2 * g) y.attractor q s.1)

module _ {P : Type 0} (dist : Distance P) {counts : Rule} (law : Lawful counts) (h : List (P × ℕ)) (x : Place P)
    (next : x.arrival ≡ suc (length h)) where
  pub new_living : Living counts (grown h x) x.arrival x.day x
  new_living = (last next refl refl, law.newest x.arrival x.day)

  -- the same, as a representative
  pub new_stands : (a : ℕ) → Living counts (grown h x) x.arrival x.day (standing_for a x)
  new_stands a = (last next refl refl, law.newest x.arrival x.day)

  module _ (k g : ℕ) (att rep : List (Place P)) (v : Place P)
      (s : Coarse dist counts k g 0 h x.arrival x.day att rep)
      (found : first_of (λ w. within dist (2 * g) w x) att ≡ Some v) where
    took : Known h v × (dist v.piece x.piece ≤ 2 * g)
    took =
        let f = first_is (λ w. within dist (2 * g) w x) (Living counts h x.arrival x.day) att v
        s.living found in
        (f.0.0, leb-true (dist v.piece x.piece) (2 * g) f.1)

    -- whatever v stands for the new piece passes through
    through_new : (a : ℕ) → a ≡ v.arrival → Through dist (grown h x) (2 * g) a x.piece
    through_new a e =
        (v.piece, v.day, older (subst (λ b. Arrived b v.piece v.day h) (sym e) took.0), took.1)

    -- v has a representative of its own
    own_any : (vs own : List (Place P)) → AllZip Own vs own → Any (λ w. (w ≡ v) × (within dist (2 * g) w x ≡ true)) vs
        → Any (λ y. (y.attractor ≡ v.arrival) × (own_of v y ≡ true)) own
    own_any [] own e a = elim a [ ]
    own_any (w ∷ vs) [] e a = elim e [ ]
    own_any (w ∷ vs) (y ∷ own) e a =
        elim a [
          | inl same ↦ let t : y.attractor ≡ v.arrival = e.0.0 ∙ ap (λ z. z.arrival) same.0 in inl
              (t, eq-eqb y.attractor v.arrival t)
          | inr rest ↦ inr (own_any vs own e.1 rest)
        ]

    orphans_fail : (orphans : List (Place P)) → (vs : List (Place P))
        → Every (λ w. Every (λ y. y.attractor < w.arrival) orphans) vs
        → Any (λ w. (w ≡ v) × (within dist (2 * g) w x ≡ true)) vs → Every (λ y. own_of v y ≡ false) orphans
    orphans_fail orphans [] b a = elim a [ ]
    orphans_fail orphans (w ∷ vs) b a =
        elim a [
          | inl same ↦
              All-weaker (λ y. y.attractor < w.arrival) (λ y. eqb y.attractor v.arrival ≡ false)
              (λ y lt. ne_eqb y.attractor v.arrival
              (λ e. let z : w.arrival ≡ v.arrival = ap (λ u. u.arrival) same.0 in omega arith)) orphans
              b.0
          | inr rest ↦ orphans_fail orphans vs b.1 rest
        ]

    is_attractor : Any (λ w. (w ≡ v) × (within dist (2 * g) w x ≡ true)) att
    is_attractor = first_any (λ w. within dist (2 * g) w x) (λ w. w ≡ v) att v found refl

    split_renewed : Split k 0 att (change_first (own_of v) (renew x) rep)
    split_renewed =
        let p = s.split.parts in
        record {
          orphans = s.split.orphans;
          own = change_first (own_of v) (renew x) s.split.own;
          is = ap (change_first (own_of v) (renew x)) s.split.is ∙ changed_past (own_of v) (renew x)
              s.split.orphans s.split.own (orphans_fail s.split.orphans att p.below is_attractor);
          few = s.split.few;
          parts = record {
            few_at = p.few_at;
            below = p.below;
            owned = each_changed (own_of v) (renew x) (Living counts h x.arrival x.day) Own
                (λ w y l o. (o.0, omega (arith, arrived_low l.0))) att s.split.own s.living p.owned;
          };
        }

    any_after : (orphans own : List (Place P)) (C : Place P → Type 0) → Any C own → Any C (orphans ++ own)
    any_after [] own C a = a
    any_after (y ∷ ys) own C a = inr (any_after ys own C a)

    pub attracted : Coarse dist counts k g 0 (grown h x) x.arrival x.day att
        (change_first (own_of v) (renew x) rep)
    attracted = record {
      living = All-weaker (Living counts h x.arrival x.day) (Living counts (grown h x) x.arrival x.day)
          (λ y l. living_grown dist counts h x x.arrival x.day y l) att s.living;
      apart = s.apart;
      few = s.few;
      tied =
          all_changed (own_of v) (renew x) (Tied dist counts g (grown h x) x.arrival x.day)
          (λ y l e.
          (new_stands y.attractor, through_new y.attractor (eqb-true y.attractor v.arrival e))) rep
          (All-weaker (Tied dist counts g h x.arrival x.day)
          (Tied dist counts g (grown h x) x.arrival x.day)
          (λ y l. tied_grown dist counts h x g x.arrival x.day y l) rep s.tied);
      split = split_renewed;
      covered = λ q a d r c rel. cover q a d r c rel;
    }
      where
        fresh : (q : P) (a : ℕ) → a ≡ suc (length h) → x.piece ≡ q
            → Any (Serves dist g (grown h x) q a) (change_first (own_of v) (renew x) rep)
        fresh q a e same =
            any_new (own_of v) (renew x) (λ y. y.attractor ≡ v.arrival) (Serves dist g (grown h x) q a)
            (λ y t. (
              omega arith,
              subst (λ z. Through dist (grown h x) (2 * g) y.attractor z) same
                  (through_new y.attractor t),
            ))
            rep
            (subst (Any (λ y. (y.attractor ≡ v.arrival) × (own_of v y ≡ true))) (sym s.split.is)
            (any_after s.split.orphans s.split.own (λ y. (y.attractor ≡ v.arrival) × (own_of v y ≡ true))
            (own_any att s.split.own s.split.parts.owned is_attractor)))
            (λ y z t e2. eqb-true z.attractor v.arrival e2)

        cover : (q : P) (a d : ℕ) → Arrived a q d (grown h x) → counts a d x.arrival x.day ≡ true
            → Relevant k att a → Any (Serves dist g (grown h x) q a) (change_first (own_of v) (renew x) rep)
        cover q a d (last e same f) c rel = fresh q a e same
        cover q a d (older r) c rel =
            any_changed (own_of v) (renew x) (Serves dist g h q a) (Serves dist g (grown h x) q a)
            (λ y w. serves_grown dist counts h x g q a y w)
            (λ y t w. (omega (arith, arrived_low r), through_grown dist counts h x (2 * g) y.attractor q w.1))
            rep (s.covered q a d r c rel)
