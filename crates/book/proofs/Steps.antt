-- One row of the array of rows, and one step after another.
use Rattle.std.proofs.Common.{◌≡◌, ℕ, zero, suc, ◌<◌, List, [], ◌∷◌, ◌++◌, map, length, get_or, take, drop, set, sym, refl, ap, ◌∙◌, subst, inl, inr, arith}
use Rattle.std.proofs.lemmas.List.{get_or-set_other, get_or-set_same}
use Rattle.std.proofs.lemmas.Bool.{cases_eq}
use Rattle.picking.specs.Trials.{no_row}
use Rattle.row.specs.Seen.{Within}
use Rattle.row.specs.declared.kept.Row.{Row}
use Rattle.row.specs.declared.settings.Settings.{Settings}
use Rattle.book.specs.Rows.{RadiiBounded, RowsWithin}

pub take_row : {X : Type 0} (n j : ℕ) (xs : List X) (x : X) → take n (set xs j x) ≡ set (take n xs) j x
take_row zero j xs x = refl
take_row (suc n) j [] x = refl
take_row (suc n) zero (y ∷ xs) x = refl
take_row (suc n) (suc j) (y ∷ xs) x = ap (λ ys. y ∷ ys) (take_row n j xs x)

pub within-row : (s : Settings) (rows : List Row) (j : ℕ) (row : Row) → j < length rows → Within s row → RowsWithin s rows → RowsWithin s (set rows j row)
within-row s rows j row h w f i l =
    elim (cases_eq i j) [
      | inl e ↦ subst (λ n. Within s (get_or (set rows j row) n no_row)) (sym e) (subst (Within s) (sym (get_or-set_same rows j row no_row h)) w)
      | inr ne ↦ subst (Within s) (sym (get_or-set_other rows j i row no_row ne)) (f i l)
    ]

pub bounded_row : (rows : List Row) (j : ℕ) (row : Row) → j < length rows → row.radius ≡ (get_or rows j no_row).radius → RadiiBounded rows → RadiiBounded (set rows j row)
bounded_row rows j row h e f i l =
    elim (cases_eq i j) [
      | inl q ↦
          let here : get_or (set rows j row) i no_row ≡ row = ap (λ n. get_or (set rows j row) n no_row) q ∙ get_or-set_same rows j row no_row h in
          let same = ap (λ r. r.radius) here in
          let low = f j (omega arith) in
          omega arith
      | inr ne ↦ let same = ap (λ r. r.radius) (get_or-set_other rows j i row no_row ne) in let low = f i l in omega arith
    ]

-- the first j of a list changed, and the rest as they were
abbrev pub partway : {X : Type 0} → (X → X) → ℕ → List X → List X
partway f j xs = map f (take j xs) ++ drop j xs

pub partway_more : {X : Type 0} (f : X → X) (j : ℕ) (xs : List X) (d : X) → j < length xs
    → set (partway f j xs) j (f (get_or (partway f j xs) j d)) ≡ partway f (suc j) xs
partway_more f j [] d h = let z : ⊥ = omega arith in absurd z
partway_more f zero (x ∷ xs) d h = refl
partway_more f (suc j) (x ∷ xs) d h = ap (λ ys. f x ∷ ys) (partway_more f j xs d (omega arith))

pub partway_at : {X : Type 0} (f : X → X) (j : ℕ) (xs : List X) (d : X) → j < length xs → get_or (partway f j xs) j d ≡ get_or xs j d
partway_at f j [] d h = let z : ⊥ = omega arith in absurd z
partway_at f zero (x ∷ xs) d h = refl
partway_at f (suc j) (x ∷ xs) d h = partway_at f j xs d (omega arith)
