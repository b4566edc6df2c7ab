-- Lists of which one, or each, is such: what a filter and one more at the end leave of that.
use Rattle.std.proofs.Common.{◌≡◌, ◌<◌, ◌≤◌, Bool, true, false, cond, ◌⊎◌, List, [], ◌∷◌, ◌++◌, length, filter, refl, ap, inl, inr, arith}
use Rattle.std.specs.List.{AllByRecursion as Every}
use Rattle.std.proofs.lemmas.Bool.{cases_Bool}
use Rattle.rules.specs.Words.{Any}

-- each is so with each that comes later
abbrev pub Pairwise : {X : Type 0} → (X → X → Type 0) → List X → Type 0
Pairwise R [] = Unit {0}
Pairwise R (x ∷ xs) = Every (R x) xs × Pairwise R xs

module _ {X : Type 0} where
  -- one of the list is such, and all are Q: one is both
  pub any_with : (C Q D : X → Type 0) → ((x : X) → Q x → C x → D x) → (xs : List X) → Every Q xs → Any C xs → Any D xs
  any_with C Q D f [] q c = c
  any_with C Q D f (x ∷ xs) q c = elim c [ inl h ↦ inl (f x q.0 h) | inr h ↦ inr (any_with C Q D f xs q.1 h) ]

  pub any_weaker : (C D : X → Type 0) → ((x : X) → C x → D x) → (xs : List X) → Any C xs → Any D xs
  any_weaker C D f [] c = c
  any_weaker C D f (x ∷ xs) c = elim c [ inl h ↦ inl (f x h) | inr h ↦ inr (any_weaker C D f xs h) ]

  pub any_push : (C : X → Type 0) (xs : List X) (y : X) → Any C xs → Any C (xs ++ (y ∷ []))
  any_push C [] y c = elim c [ ]
  any_push C (x ∷ xs) y c = elim c [ inl h ↦ inl h | inr h ↦ inr (any_push C xs y h) ]

  pub any_last : (C : X → Type 0) (xs : List X) (y : X) → C y → Any C (xs ++ (y ∷ []))
  any_last C [] y c = inl c
  any_last C (x ∷ xs) y c = inr (any_last C xs y c)

  pub any_push_cases : (C : X → Type 0) (xs : List X) (y : X) → Any C (xs ++ (y ∷ [])) → Any C xs ⊎ C y
  any_push_cases C [] y c = elim c [ inl h ↦ inr h | inr h ↦ absurd h ]
  any_push_cases C (x ∷ xs) y c =
      elim c [ inl h ↦ inl (inl h) | inr h ↦ elim (any_push_cases C xs y h) [ inl k ↦ inl (inr k) | inr k ↦ inr k ] ]

  -- each is P and each is Q
  pub all_zip : (P Q R : X → Type 0) → ((x : X) → P x → Q x → R x) → (xs : List X) → Every P xs → Every Q xs → Every R xs
  all_zip P Q R f [] p q = tt
  all_zip P Q R f (x ∷ xs) p q = (f x p.0 q.0, all_zip P Q R f xs p.1 q.1)

  pub all_parts : (P : X → Type 0) (xs ys : List X) → Every P (xs ++ ys) → Every P xs × Every P ys
  all_parts P [] ys h = (tt, h)
  all_parts P (x ∷ xs) ys h = let r = all_parts P xs ys h.1 in ((h.0, r.0), r.1)

  pub all_unit : (xs : List X) → Every (λ x. Unit {0}) xs
  all_unit [] = tt
  all_unit (x ∷ xs) = (tt, all_unit xs)

  -- what a filter keeps is of the list
  pub any_of_kept : (C : X → Type 0) (f : X → Bool) (xs : List X) → Any C (filter f xs) → Any C xs
  any_of_kept C f [] c = c
  any_of_kept C f (x ∷ xs) c = go (f x) (any_of_kept C f xs) c
    where
      go : (b : Bool) → (Any C (filter f xs) → Any C xs) → Any C (cond b (x ∷ filter f xs) (filter f xs))
          → Any C (x ∷ xs)
      go true rest c = elim c [ inl h ↦ inl h | inr h ↦ inr (rest h) ]
      go false rest c = inr (rest c)

  -- a filter that keeps all that are such leaves one that is
  pub any_stays : (C Q : X → Type 0) (f : X → Bool) → ((x : X) → Q x → C x → f x ≡ true) → (xs : List X) → Every Q xs
      → Any C xs → Any C (filter f xs)
  any_stays C Q f h [] q c = c
  any_stays C Q f h (x ∷ xs) q c =
      elim c [
        | inl k ↦ rw (h x q.0 k) (inl k)
        | inr k ↦
            let rest = any_stays C Q f h xs q.1 k in
            elim (cases_Bool (f x)) [ inl e ↦ rw e (inr rest) | inr e ↦ rw e rest ]
      ]

  -- a filter that leaves fewer has dropped one
  pub some_went : (f : X → Bool) (xs : List X) → length (filter f xs) < length xs → Any (λ x. f x ≡ false) xs
  some_went f [] h = absurd (omega arith)
  some_went f (x ∷ xs) h =
      elim (cases_Bool (f x)) [ inl e ↦ let k = rw e at h in inr (some_went f xs (omega arith)) | inr e ↦ inl e ]

  pub kept_fewer : (f : X → Bool) (xs : List X) → length (filter f xs) ≤ length xs
  kept_fewer f [] = omega arith
  kept_fewer f (x ∷ xs) = elim (cases_Bool (f x))
      [ inl e ↦ rw e (omega (arith, kept_fewer f xs)) | inr e ↦ rw e (omega (arith, kept_fewer f xs)) ]

  -- what is kept has passed
  pub all_kept_with : (P Q : X → Type 0) (f : X → Bool) → ((x : X) → P x → f x ≡ true → Q x) → (xs : List X)
      → Every P xs → Every Q (filter f xs)
  all_kept_with P Q f h [] p = tt
  all_kept_with P Q f h (x ∷ xs) p =
      elim (cases_Bool (f x)) [
        | inl e ↦ rw e (h x p.0 e, all_kept_with P Q f h xs p.1)
        | inr e ↦ rw e
            (all_kept_with P Q f h xs p.1)
      ]

  -- a filter that all pass leaves the list
  pub kept_all : (f : X → Bool) (xs : List X) → Every (λ x. f x ≡ true) xs → filter f xs ≡ xs
  kept_all f [] h = refl
  kept_all f (x ∷ xs) h = rw h.0 (ap (λ ys. x ∷ ys) (kept_all f xs h.1))

  pub all_kept : (P : X → Type 0) (f : X → Bool) (xs : List X) → Every P xs → Every P (filter f xs)
  all_kept P f xs p = all_kept_with P P f (λ x h e. h) xs p

  pub pairwise_kept : (R : X → X → Type 0) (f : X → Bool) (xs : List X) → Pairwise R xs → Pairwise R (filter f xs)
  pairwise_kept R f [] p = tt
  pairwise_kept R f (x ∷ xs) p =
      elim (cases_Bool (f x)) [
        | inl e ↦ rw e (all_kept (R x) f xs p.0, pairwise_kept R f xs p.1)
        | inr e ↦ rw e (pairwise_kept R f xs p.1)
      ]

  pub pairwise_weaker : (R S : X → X → Type 0) → ((x y : X) → R x y → S x y) → (xs : List X) → Pairwise R xs
      → Pairwise S xs
  pairwise_weaker R S f [] p = tt
  pairwise_weaker R S f (x ∷ xs) p = (go xs p.0, pairwise_weaker R S f xs p.1)
    where
      go : (ys : List X) → Every (R x) ys → Every (S x) ys
      go [] h = tt
      go (y ∷ ys) h = (f x y h.0, go ys h.1)

  pub pairwise_push : (R : X → X → Type 0) (xs : List X) (y : X) → Pairwise R xs → Every (λ x. R x y) xs
      → Pairwise R (xs ++ (y ∷ []))
  pairwise_push R [] y p h = (tt, tt)
  pairwise_push R (x ∷ xs) y p h = (go xs p.0, pairwise_push R xs y p.1 h.1)
    where
      go : (zs : List X) → Every (R x) zs → Every (R x) (zs ++ (y ∷ []))
      go [] k = (h.0, tt)
      go (z ∷ zs) k = (k.0, go zs k.1)
