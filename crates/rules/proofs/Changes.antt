-- The first of a list that passes a test, that one changed, and the first of the least.
use Rattle.std.proofs.Common.{◌≡◌, ℕ, suc, ◌≤◌, Bool, true, false, cond, leb, ◌⊎◌, List, [], ◌∷◌, ◌++◌, length, Some, None, sym, refl, ap, subst, inl, inr, arith}
use Rattle.std.specs.List.{AllZip, AllByRecursion as Every}
use Rattle.std.proofs.lemmas.Bool.{cases_Bool}
use Rattle.std.proofs.ByRecursion.{All-weaker}
use Rattle.std.proofs.lemmas.Bool.Decides.{leb_tells}
use Rattle.rules.specs.Words.{Any, first_of, change_first, least}

module _ {X : Type 0} where
  -- the first that passes is one of them, and passes
  pub first_is : (test : X → Bool) (Q : X → Type 0) (xs : List X) (x : X) → Every Q xs → first_of test xs ≡ Some x
      → Q x × (test x ≡ true)
  first_is test Q [] x q e = let z : ◌≡◌ {A = ℕ} 0 1 = cc in absurd (omega arith)
  first_is test Q (y ∷ ys) x q e =
      elim (cases_Bool (test y)) [
        | inl t ↦ let f = rw t at e in let same : y ≡ x = cc in subst (λ z. Q z × (test z ≡ true)) same (q.0, t)
        | inr t ↦ first_is test Q ys x q.1 (rw t at e)
      ]

  pub first_any : (test : X → Bool) (C : X → Type 0) (xs : List X) (x : X) → first_of test xs ≡ Some x → C x
      → Any (λ y. C y × (test y ≡ true)) xs
  first_any test C [] x e c = let z : ◌≡◌ {A = ℕ} 0 1 = cc in absurd (omega arith)
  first_any test C (y ∷ ys) x e c =
      elim (cases_Bool (test y)) [
        | inl t ↦ let f = rw t at e in let same : x ≡ y = cc in inl (subst C same c, t)
        | inr t ↦ inr (first_any test C ys x (rw t at e) c)
      ]

  pub none_passes : (test : X → Bool) (xs : List X) → first_of test xs ≡ None → Every (λ x. test x ≡ false) xs
  none_passes test [] e = tt
  none_passes test (x ∷ xs) e =
      elim (cases_Bool (test x)) [
        | inl t ↦ let f = rw t at e in let z : ◌≡◌ {A = ℕ} 0 1 = cc in absurd (omega arith)
        | inr t ↦ (t, none_passes test xs (rw t at e))
      ]

  module _ (test : X → Bool) (change : X → X) where
    pub all_changed : (Q : X → Type 0) → ((x : X) → Q x → test x ≡ true → Q (change x)) → (xs : List X) → Every Q xs
        → Every Q (change_first test change xs)
    all_changed Q f [] q = tt
    all_changed Q f (x ∷ xs) q =
        elim (cases_Bool (test x))
        [ inl e ↦ rw e (f x q.0 e, q.1) | inr e ↦ rw e (q.0, all_changed Q f xs q.1) ]

    pub length_changed : (xs : List X) → length (change_first test change xs) ≡ length xs
    length_changed [] = refl
    length_changed (x ∷ xs) = elim (cases_Bool (test x))
        [ inl e ↦ rw e refl | inr e ↦ rw e (ap suc (length_changed xs)) ]

    -- where none of the front passes, the change is behind it
    pub changed_past : (xs ys : List X) → Every (λ x. test x ≡ false) xs
        → change_first test change (xs ++ ys) ≡ xs ++ change_first test change ys
    changed_past [] ys h = refl
    changed_past (x ∷ xs) ys h = rw h.0 (ap (λ zs. x ∷ zs) (changed_past xs ys h.1))

    pub each_changed : (W : X → Type 0) (R : X → X → Type 0) → ((w x : X) → W w → R w x → R w (change x))
        → (ws xs : List X) → Every W ws → AllZip R ws xs → AllZip R ws (change_first test change xs)
    each_changed W R f [] [] w r = tt
    each_changed W R f [] (x ∷ xs) w r = elim r [ ]
    each_changed W R f (v ∷ ws) [] w r = elim r [ ]
    each_changed W R f (v ∷ ws) (x ∷ xs) w r =
        elim (cases_Bool (test x)) [
          | inl e ↦ rw e (f v x w.0 r.0, r.1)
          | inr e ↦ rw e (r.0, each_changed W R f ws xs w.1 r.1)
        ]

    -- one passes: the changed list has what its change gives
    pub any_new : (C D : X → Type 0) → ((x : X) → C x → D (change x)) → (xs : List X)
        → Any (λ x. C x × (test x ≡ true)) xs → ((x y : X) → C x → test y ≡ true → C y)
        → Any D (change_first test change xs)
    any_new C D f [] a s = elim a [ ]
    any_new C D f (x ∷ xs) a s =
        elim a [
          | inl h ↦ rw h.1 (inl (f x h.0))
          | inr h ↦ elim (cases_Bool (test x)) [
            | inl e ↦ rw e (inl (f x (witness xs h x e)))
            | inr e ↦ rw e (inr (any_new C D f xs h s))
          ]
        ]
      where
        witness : (ys : List X) → Any (λ y. C y × (test y ≡ true)) ys → (x : X) → test x ≡ true → C x
        witness [] h x e = elim h [ ]
        witness (y ∷ ys) h x e = elim h [ inl k ↦ s y x k.0 e | inr k ↦ witness ys k x e ]

    -- what is such stays such, changed or not
    pub any_changed : (C D : X → Type 0) → ((x : X) → C x → D x) → ((x : X) → test x ≡ true → C x → D (change x))
        → (xs : List X) → Any C xs → Any D (change_first test change xs)
    any_changed C D same new [] a = a
    any_changed C D same new (x ∷ xs) a =
        elim (cases_Bool (test x)) [
          | inl e ↦ rw e (elim a [ inl h ↦ inl (new x e h) | inr h ↦ inr (any_weak xs h) ])
          | inr e ↦ rw e (elim a [ inl h ↦ inl (same x h) | inr h ↦ inr (any_changed C D same new xs h) ])
        ]
      where
        any_weak : (ys : List X) → Any C ys → Any D ys
        any_weak [] h = h
        any_weak (y ∷ ys) h = elim h [ inl k ↦ inl (same y k) | inr k ↦ inr (any_weak ys k) ]

  module _ (n : X → ℕ) where
    -- the first of the least and the others are the list
    pub least-length : (x : X) (xs : List X) → length (least n x xs).1 ≡ length xs
    least-length x [] = refl
    least-length x (y ∷ ys) =
        elim (cases_Bool (leb (n x) (n (least n y ys).0)))
        [ inl e ↦ rw e refl | inr e ↦ rw e (ap suc (least-length y ys)) ]

    pub least-all : (Q : X → Type 0) (x : X) (xs : List X) → Every Q (x ∷ xs)
        → Q (least n x xs).0 × Every Q (least n x xs).1
    least-all Q x [] q = (q.0, tt)
    least-all Q x (y ∷ ys) q =
        let ih = least-all Q y ys q.1 in
        elim (cases_Bool (leb (n x) (n (least n y ys).0)))
        [ inl e ↦ rw e (q.0, q.1) | inr e ↦ rw e (ih.0, (q.0, ih.1)) ]

    pub least-low : (x : X) (xs : List X) → Every (λ y. n (least n x xs).0 ≤ n y) (x ∷ xs)
    least-low x [] = (omega arith, tt)
    least-low x (y ∷ ys) =
        let g = least n y ys in
        let T : Bool → Type 0 = λ b. Every (λ z. n (cond {A = X × List X} b (x, y ∷ ys) (g.0, x ∷ g.1)).0 ≤ n z)
        (x ∷ (y ∷ ys)) in
        elim (leb_tells (n x) (n g.0)) [
          | inl t ↦ subst T (sym t.0) (
            omega arith,
            All-weaker (λ z. n g.0 ≤ n z) (λ z. n x ≤ n z) (λ z h. omega (arith, t.1)) (y ∷ ys)
                (least-low y ys),
          )
          | inr t ↦ subst T (sym t.0) (omega (arith, t.1), least-low y ys)
        ]

    pub least-least : (x : X) (xs : List X) → Every (λ y. n (least n x xs).0 ≤ n y) (least n x xs).1
    least-least x xs = (least-all (λ y. n (least n x xs).0 ≤ n y) x xs (least-low x xs)).1

    pub least_any : (C : X → Type 0) (x : X) (xs : List X) → Any C (x ∷ xs)
        → C (least n x xs).0 ⊎ Any C (least n x xs).1
    least_any C x [] c = elim c [ inl h ↦ inl h | inr h ↦ absurd h ]
    least_any C x (y ∷ ys) c =
        elim (cases_Bool (leb (n x) (n (least n y ys).0))) [
          | inl e ↦ rw e (elim c [ inl h ↦ inl h | inr h ↦ inr h ])
          | inr e ↦ rw e
              (elim c
              [ inl h ↦ inr (inl h) | inr h ↦ elim (least_any C y ys h) [ inl k ↦ inl k | inr k ↦ inr (inr k) ] ])
        ]
