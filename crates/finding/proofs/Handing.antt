-- The piece at a place of one list.
use Rattle.std.proofs.Common.{◌≡◌, ℕ, zero, suc, ◌+◌, ◌<◌, ◌≤◌, cond, eqb, List, [], ◌∷◌, length, get_or, Some, None, refl, ap, ◌∙◌, arith}
use Rattle.std.proofs.lemmas.Bool.{eq-eqb, ne_eqb}
use Rattle.rules.specs.Calls.{lying, piece_of}
use Rattle.rules.specs.Words.{first_of}
use Rattle.rules.specs.declared.place.Place.{Place}

pub no_piece : {P : Type 0} (x : ℕ × Place P) → piece_of (Some x) ≡ None → ⊥
no_piece x e = let z : ◌≡◌ {A = ℕ} 0 1 = cc in omega arith

module _ {P : Type 0} (at : ℕ) where
  -- before the list
  pub piece_before : (start : ℕ) (xs : List (Place P)) → at < start → first_of (λ x. eqb x.0 at) (lying start xs) ≡ None
  piece_before start [] h = refl
  piece_before start (x ∷ xs) h =
      ap (λ b. cond b (Some (start, x)) (first_of (λ x. eqb x.0 at) (lying (suc start) xs))) (ne_eqb start at (omega arith))
      ∙ piece_before (suc start) xs (omega arith)

  -- past it
  pub piece_past : (start : ℕ) (xs : List (Place P)) → start + length xs ≤ at → first_of (λ x. eqb x.0 at) (lying start xs) ≡ None
  piece_past start [] h = refl
  piece_past start (x ∷ xs) h =
      ap (λ b. cond b (Some (start, x)) (first_of (λ x. eqb x.0 at) (lying (suc start) xs))) (ne_eqb start at (omega arith))
      ∙ piece_past (suc start) xs (omega arith)

  -- in it
  pub piece_here : (start : ℕ) (xs : List (Place P)) (i : ℕ) (d : Place P) → start + i ≡ at → i < length xs
      → first_of (λ x. eqb x.0 at) (lying start xs) ≡ Some (at, get_or xs i d)
  piece_here start [] i d e h = let z : ⊥ = omega arith in absurd z
  piece_here start (x ∷ xs) zero d e h =
      let same : start ≡ at = omega arith in
      ap (λ b. cond b (Some (start, x)) (first_of (λ x. eqb x.0 at) (lying (suc start) xs))) (eq-eqb start at same)
      ∙ ap (λ n. Some (n, x)) same
  piece_here start (x ∷ xs) (suc i) d e h =
      ap (λ b. cond b (Some (start, x)) (first_of (λ x. eqb x.0 at) (lying (suc start) xs))) (ne_eqb start at (omega arith))
      ∙ piece_here (suc start) xs i d (omega arith) (omega arith)
