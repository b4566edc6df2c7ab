-- Searches on the shelf: one list after another, and one part after another.
use Rattle.std.proofs.Common.{◌≡◌, ℕ, suc, ◌+◌, ◌*◌, ◌<◌, ◌≤◌, Bool, true, false, cond, eqb, List, [], ◌∷◌, ◌++◌, map, length, drop, Some, None, Option, option_map, position, not, ltb, add-zero, sym, refl, ap, ◌∙◌, suc-mul, add-one, arith}
use Rattle.std.proofs.lemmas.List.{at_drop_all, at_drop_more}
use Rattle.std.specs.List.{position_or_len}
use Rattle.std.proofs.lemmas.Bool.{lt-ltb}
use Rattle.std.proofs.lemmas.Bool.Decides.{nat_tests}
use Rattle.picking.specs.Trials.{no_row, row_at}
use Rattle.picking.proofs.Shelves.{length_seen, seen_at}
use Rattle.row.specs.Seen.{judged, seen_row, seen_rows}
use Rattle.picking.specs.Seen as seen
use Rattle.picking.specs.declared.radii.Lists.{Lists}
use Rattle.picking.specs.declared.radii.Radii.{Radii}
use Rattle.row.specs.declared.kept.Row.{Row}
use Rattle.row.specs.declared.settings.Settings.{Settings}
use Rattle.rules.specs.Calls.{lying, lying_from, lying_in, place_of}
use Rattle.rules.specs.Limits.{latests_at, part_size, representatives_at}
use Rattle.rules.specs.Views as view
use Rattle.rules.specs.Words.{first_of}
use Rattle.rules.specs.declared.place.Place.{Place}

-- A search that tells something of the first that passes, and None where none does.
module _ {A Y : Type 0} (out : Option A → Option Y) (some : (x : A) → out (Some x) ≡ None → ⊥) (none : out None ≡ None) (test : A → Bool) where
  -- in the first of two lists
  pub seek_left : (xs ys : List A) (y : Y) → Some y ≡ out (first_of test xs) → Some y ≡ out (first_of test (xs ++ ys))
  seek_left [] ys y e = let z : ◌≡◌ {A = ℕ} 0 1 = cc in let never : ⊥ = omega arith in absurd never
  seek_left (x ∷ xs) ys y e = go (seek_left xs ys y) (test x) e
    where
      go : (Some y ≡ out (first_of test xs) → Some y ≡ out (first_of test (xs ++ ys)))
          → (b : Bool) → Some y ≡ out (cond b (Some x) (first_of test xs)) → Some y ≡ out (cond b (Some x) (first_of test (xs ++ ys)))
      go rest true f = f
      go rest false f = rest f

  -- not in the first
  pub seek_right : (xs ys : List A) → None ≡ out (first_of test xs) → out (first_of test (xs ++ ys)) ≡ out (first_of test ys)
  seek_right [] ys e = refl
  seek_right (x ∷ xs) ys e = go (seek_right xs ys) (test x) e
    where
      go : (None ≡ out (first_of test xs) → out (first_of test (xs ++ ys)) ≡ out (first_of test ys))
          → (b : Bool) → None ≡ out (cond b (Some x) (first_of test xs)) → out (cond b (Some x) (first_of test (xs ++ ys))) ≡ out (first_of test ys)
      go rest true f = absurd (some x (sym f))
      go rest false f = rest f

-- The same over the radii.
module _ {P Y : Type 0} (out : Option (ℕ × Place P) → Option Y) (some : (x : ℕ × Place P) → out (Some x) ≡ None → ⊥) (none : out None ≡ None) (test : ℕ × Place P → Bool) where
  -- in the first list of a radius, in the second, and in the third or in none
  pub row_first : (s : view.Settings) (at : ℕ) (row : view.Row P) (y : Y)
      → Some y ≡ out (first_of test (lying at row.attractors))
      → Some y ≡ out (first_of test (lying_in s at row))
  row_first s at row y e = seek_left out some none test (lying at row.attractors) _ y e

  pub row_second : (s : view.Settings) (at : ℕ) (row : view.Row P) (y : Y)
      → None ≡ out (first_of test (lying at row.attractors))
      → Some y ≡ out (first_of test (lying (at + representatives_at s) row.representatives))
      → Some y ≡ out (first_of test (lying_in s at row))
  row_second s at row y not1 e =
      seek_left out some none test (lying (at + representatives_at s) row.representatives) _ y e
      ∙ sym (seek_right out some none test (lying at row.attractors) _ not1)

  pub row_third : (s : view.Settings) (at : ℕ) (row : view.Row P) (r : Option Y)
      → None ≡ out (first_of test (lying at row.attractors))
      → None ≡ out (first_of test (lying (at + representatives_at s) row.representatives))
      → r ≡ out (first_of test (lying (at + latests_at s) (map (λ e. e.latest) row.fine)))
      → r ≡ out (first_of test (lying_in s at row))
  row_third s at row r not1 not2 e =
      e
      ∙ sym (seek_right out some none test (lying (at + representatives_at s) row.representatives) _ not2)
      ∙ sym (seek_right out some none test (lying at row.attractors) _ not1)

  module _ (s : Settings) (rows : List Row) (places : List (Place P)) where
    -- nothing has been found before radius j
    abbrev pub Seeking : ℕ → Type 0
    Seeking j =
        out (first_of test (lying_from (judged s) (j * part_size (judged s)) (drop j (seen_rows s rows places))))
        ≡ out (first_of test (lying_from (judged s) 0 (seen_rows s rows places)))

    -- what lies from radius j on
    from_at : (j : ℕ) → j < length rows
        → lying_from (judged s) (j * part_size (judged s)) (drop j (seen_rows s rows places))
        ≡ lying_in (judged s) (j * part_size (judged s)) (row_at s rows places j)
        ++ lying_from (judged s) ((j + 1) * part_size (judged s)) (drop (j + 1) (seen_rows s rows places))
    from_at j h =
        let w = part_size (judged s) in
        let v = seen_rows s rows places in
        let d : view.Row P = seen_row s no_row [] in
        let l = length_seen s rows places in
        let more : j * w + w ≡ (j + 1) * w = sym (suc-mul j w) ∙ ap (λ n. n * w) (sym (add-one j)) in
        at_drop_more (lying_from (judged s) (j * w)) v j d (omega arith)
        ∙ ap (λ row. lying_in (judged s) (j * w) row ++ lying_from (judged s) (j * w + w) (drop (j + 1) v)) (seen_at s rows places j d h)
        ∙ ap (λ n. lying_in (judged s) (j * w) (row_at s rows places j) ++ lying_from (judged s) n (drop (j + 1) v)) more

    pub seeking_here : (j : ℕ) (y : Y) → j < length rows
        → Some y ≡ out (first_of test (lying_in (judged s) (j * part_size (judged s)) (row_at s rows places j)))
        → Seeking j → Some y ≡ out (first_of test (lying_from (judged s) 0 (seen_rows s rows places)))
    seeking_here j y h e before =
        let w = part_size (judged s) in
        seek_left out some none test (lying_in (judged s) (j * w) (row_at s rows places j))
        (lying_from (judged s) ((j + 1) * w) (drop (j + 1) (seen_rows s rows places))) y e
        ∙ sym (ap (λ xs. out (first_of test xs)) (from_at j h))
        ∙ before

    pub seeking_on : (j : ℕ) → j < length rows
        → None ≡ out (first_of test (lying_in (judged s) (j * part_size (judged s)) (row_at s rows places j)))
        → Seeking j → Seeking (j + 1)
    seeking_on j h e before =
        let w = part_size (judged s) in
        sym (seek_right out some none test (lying_in (judged s) (j * w) (row_at s rows places j))
        (lying_from (judged s) ((j + 1) * w) (drop (j + 1) (seen_rows s rows places))) e)
        ∙ sym (ap (λ xs. out (first_of test xs)) (from_at j h))
        ∙ before

    pub seeking_none : (j : ℕ) → length rows ≤ j → Seeking j → None ≡ out (first_of test (lying_from (judged s) 0 (seen_rows s rows places)))
    seeking_none j h before =
        let l = length_seen s rows places in
        sym none
        ∙ sym (at_drop_all (λ xs. out (first_of test (lying_from (judged s) (j * part_size (judged s)) xs))) (seen_rows s rows places) j (omega arith))
        ∙ before

-- what is told of the lists of the radius at j is told of its row
pub told_here : {P Y : Type 0} (out : Option (ℕ × Place P) → Option Y) (test : ℕ × Place P → Bool) (r : Radii P) (j start : ℕ) (l : Lists P)
    → start ≡ j * part_size (judged r.settings) → l.settings ≡ r.settings → seen.listed l ≡ seen.row_at r j
    → out (first_of test (lying_in (judged l.settings) start (seen.listed l))) ≡ out (first_of test (lying_in (judged r.settings) (j * part_size (judged r.settings)) (seen.row_at r j)))
told_here out test r j start l at settled is =
    ap (λ s. out (first_of test (lying_in (judged s) start (seen.listed l)))) settled
    ∙ ap (λ n. out (first_of test (lying_in (judged r.settings) n (seen.listed l)))) at
    ∙ ap (λ x. out (first_of test (lying_in (judged r.settings) (j * part_size (judged r.settings)) x))) is

-- a search by an arrival tells the place
pub no_place : {P : Type 0} (x : ℕ × Place P) → place_of (Some x) ≡ None → ⊥
no_place x e = let z : ◌≡◌ {A = ℕ} 0 1 = cc in omega arith

shifted : (start m n : ℕ)
    → option_map (λ i. suc start + i) (cond (ltb m n) (Some m) None) ≡ option_map (λ i. start + i) (cond (ltb (1 + m) (suc n)) (Some (1 + m)) None)
shifted start m n =
    let e : suc start + m ≡ start + (1 + m) = omega arith in
    let same : ltb m n ≡ ltb (1 + m) (suc n) = grind (arith, nat_tests) in
    elim (ltb m n) as (λ b. option_map (λ i. suc start + i) (cond b (Some m) None) ≡ option_map (λ i. start + i) (cond b (Some (1 + m)) None)) [
      | true ↦ ap Some e
      | false ↦ refl
    ]
    ∙ ap (λ b. option_map (λ i. start + i) (cond b (Some (1 + m)) None)) same

-- the same by the index in one list
module _ {P : Type 0} (a : ℕ) where
  pub at_position : (start : ℕ) (xs : List (Place P))
      → option_map (λ i. start + i) (position (λ x. eqb x.arrival a) xs) ≡ place_of (first_of (λ x. eqb x.1.arrival a) (lying start xs))
  at_position start [] = refl
  at_position start (x ∷ xs) =
      let m : ℕ = position_or_len (λ y. eqb y.arrival a) xs in
      let rest : option_map (λ i. suc start + i) (cond (ltb m (length xs)) (Some m) None) ≡ place_of (first_of (λ y. eqb y.1.arrival a) (lying (suc start) xs)) =
      at_position (suc start) xs in
      elim (eqb x.arrival a) as (λ b.
      option_map (λ i. start + i) (cond (ltb (cond (not b) (1 + m) 0) (suc (length xs))) (Some (cond (not b) (1 + m) 0)) None)
      ≡ place_of (cond b (Some (start, x)) (first_of (λ y. eqb y.1.arrival a) (lying (suc start) xs)))) [
        | true ↦
            ap (λ b. option_map (λ i. start + i) (cond b (Some 0) None)) (lt-ltb 0 (suc (length xs)) (omega arith))
            ∙ ap Some (add-zero start)
        | false ↦ sym (shifted start m (length xs)) ∙ rest
      ]
