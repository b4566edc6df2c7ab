-- What a pick takes: the first radius that passes, and the one before it.
use Rattle.std.proofs.Common.{◌≡◌, ℕ, zero, suc, ◌+◌, ◌-◌, ◌*◌, ◌<◌, ◌≤◌, Bool, true, false, cond, leb, List, [], ◌∷◌, length, get_or, take, drop, Some, None, Option, sym, refl, ap, ◌∙◌, add-zero, suc-mul, zero-mul, add-one, arith}
use Rattle.std.proofs.lemmas.List.{at_drop_all, at_drop_more, drop-drop, get_or-drop}
use Rattle.std.proofs.lemmas.Bool.{and_from, and_left, and_right, lt-leb, le-leb}
use Rattle.packed.specs.Lists.{cut}
use Rattle.row.specs.Seen.{Within, judged, seen_row, seen_rows}
use Rattle.row.specs.declared.kept.Row.{Row}
use Rattle.row.specs.declared.settings.Settings.{Settings}
use Rattle.rules.specs.Limits.{part_size}
use Rattle.rules.specs.Picking.{choose, passes, taken, taken_after}
use Rattle.cover.specs.Distances.{Distance}
use Rattle.rules.specs.Views as view
use Rattle.rules.specs.declared.place.Place.{Place}
use Rattle.picking.specs.Trials.{first_passing, floor_at, index_from, no_row, row_at, taken_at}
use Rattle.picking.proofs.Shelves.{length_seen, passes_at}

-- The search has come to j.
index_here : {X : Type 0} (test : X → Bool) (xs : List X) (j : ℕ) (d : X) → j < length xs → test (get_or xs j d) ≡ true
    → index_from test j (drop j xs) ≡ Some j
index_here test xs j d h t =
    at_drop_more (index_from test j) xs j d h ∙ ap (λ b. cond b (Some j) (index_from test (suc j) (drop (j + 1) xs))) t

index_on : {X : Type 0} (test : X → Bool) (xs : List X) (j : ℕ) (d : X) → j < length xs → test (get_or xs j d) ≡ false
    → index_from test (j + 1) (drop (j + 1) xs) ≡ index_from test j (drop j xs)
index_on test xs j d h t =
    ap (λ n. index_from test n (drop (j + 1) xs)) (add-one j)
    ∙ ap (λ b. cond b (Some j) (index_from test (suc j) (drop (j + 1) xs))) (sym t)
    ∙ sym (at_drop_more (index_from test j) xs j d h)

module _ {P : Type 0} (dist : Distance P) (s : Settings) (rows : List Row) (places : List (Place P)) (long : length rows * part_size (judged s) ≤ length places) where
  -- none has passed before j
  abbrev pub Passing : ℕ → Type 0
  Passing j =
      index_from (passes dist s.k) j (drop j (seen_rows s rows places)) ≡ first_passing dist s.k (seen_rows s rows places)

  none : view.Row P
  none = seen_row s no_row []

  inside : (j : ℕ) → j < length rows → j < length (seen_rows s rows places)
  inside j h = let e = length_seen s rows places in omega arith

  -- it has too many attractors
  pub passing_crowded : (j : ℕ) → j < length rows → Within s (get_or rows j no_row) → s.k < (get_or rows j no_row).attractors → Passing j → Passing (j + 1)
  passing_crowded j h fits more before =
      index_on (passes dist s.k) (seen_rows s rows places) j none (inside j h)
      (passes_at dist s rows places j none long h fits ∙ and_left _ _ (lt-leb (get_or rows j no_row).attractors s.k more))
      ∙ before

  -- the trial chooses too many
  pub passing_spread : (j : ℕ) → j < length rows → Within s (get_or rows j no_row)
      → leb (length (choose dist (2 * (get_or rows j no_row).radius) [] (row_at s rows places j).representatives)) s.k ≡ false → Passing j → Passing (j + 1)
  passing_spread j h fits more before =
      index_on (passes dist s.k) (seen_rows s rows places) j none (inside j h) (passes_at dist s rows places j none long h fits ∙ and_right _ _ more)
      ∙ before

  -- it passes
  pub passing_here : (j : ℕ) → j < length rows → Within s (get_or rows j no_row) → (get_or rows j no_row).attractors ≤ s.k
      → leb (length (choose dist (2 * (get_or rows j no_row).radius) [] (row_at s rows places j).representatives)) s.k ≡ true → Passing j
      → Some j ≡ first_passing dist s.k (seen_rows s rows places)
  passing_here j h fits few all before =
      sym (
      index_here (passes dist s.k) (seen_rows s rows places) j none (inside j h)
      (passes_at dist s rows places j none long h fits ∙ and_from _ _ (le-leb (get_or rows j no_row).attractors s.k few) all))
      ∙ before

  -- none has passed
  pub passing_none : (j : ℕ) → length rows ≤ j → Passing j → None ≡ first_passing dist s.k (seen_rows s rows places)
  passing_none j h before =
      let e = length_seen s rows places in
      sym (at_drop_all (index_from (passes dist s.k) j) (seen_rows s rows places) j (omega arith)) ∙ before

-- rows and places are what is left of all from index n on
taken_from : {P : Type 0} (dist : Distance P) (k : ℕ) (s : Settings) (all : List Row) (shelf : List (Place P)) (rows : List Row) (places : List (Place P)) (n : ℕ)
    → rows ≡ drop n all → places ≡ drop (n * part_size (judged s)) shelf
    → taken_after dist k (floor_at all n) (seen_rows s rows places) ≡ taken_at s all shelf (index_from (passes dist k) n (seen_rows s rows places))
taken_from dist k s all shelf [] places n e f = refl
taken_from {P} dist k s all shelf (row ∷ rows) places n e f =
    let w = part_size (judged s) in
    let here : row ≡ get_or all n no_row = ap (λ ys. get_or ys 0 no_row) e ∙ get_or-drop n all 0 no_row ∙ ap (λ m. get_or all m no_row) (add-zero n) in
    let part : take w places ≡ cut (n * w) w shelf = ap (take w) f in
    let rest : rows ≡ drop (suc n) all = ap (drop 1) e ∙ drop-drop 1 n all ∙ ap (λ m. drop m all) (add-one n) in
    let more : n * w + w ≡ suc n * w = sym (suc-mul n w) in
    let rest' : drop w places ≡ drop (suc n * w) shelf = ap (drop w) f ∙ drop-drop w (n * w) shelf ∙ ap (λ m. drop m shelf) more in
    let ih = taken_from dist k s all shelf rows (drop w places) (suc n) rest rest' in
    elim (passes dist k (seen_row s row (take w places))) as (λ b.
    cond b (Some (record { row = seen_row s row (take w places); floor = floor_at all n })) (taken_after dist k (Some row.radius) (seen_rows s rows (drop w places)))
    ≡ taken_at s all shelf (cond b (Some n) (index_from (passes dist k) (suc n) (seen_rows s rows (drop w places))))) [
      | true ↦
          ap (λ r. Some (record { row = seen_row s r (take w places); floor = floor_at all n })) here
          ∙ ap (λ ys. Some (record { row = seen_row s (get_or all n no_row) ys; floor = floor_at all n })) part
      | false ↦ ap (λ r. taken_after dist k (Some r.radius) (seen_rows s rows (drop w places))) here ∙ ih
    ]

-- what is taken, by the index r of the first radius that passes
pub taken_at_lem : {P : Type 0} (dist : Distance P) (s : Settings) (rows : List Row) (places : List (Place P)) (r : Option ℕ)
    → r ≡ first_passing dist s.k (seen_rows s rows places)
    → taken_after dist s.k None (seen_rows s rows places) ≡ taken_at s rows places r
taken_at_lem dist s rows places r e =
    taken_from dist s.k s rows places rows places 0 refl (ap (λ m. drop m places) (sym (zero-mul (part_size (judged s)))))
    ∙ ap (taken_at s rows places) (sym e)

-- the same of a view with these settings and rows
pub taken-seen : {P : Type 0} (dist : Distance P) (b : view.View P) (s : Settings) (rows : List Row) (places : List (Place P)) (r : Option ℕ)
    → b.settings ≡ judged s → b.rows ≡ seen_rows s rows places → r ≡ first_passing dist s.k (seen_rows s rows places)
    → taken dist b ≡ taken_at s rows places r
taken-seen dist b s rows places r settled seen e =
    ap (λ t. taken_after dist t.k None b.rows) settled
    ∙ ap (taken_after dist s.k None) seen
    ∙ taken_at_lem dist s rows places r e

-- the floor, as the code reads it
pub floor-first : (rows : List Row) (j : ℕ) → j ≡ 0 → floor_at rows j ≡ None
floor-first rows j e = ap (floor_at rows) e

pub floor-before : (rows : List Row) (j : ℕ) → (j ≡ 0 → ⊥) → floor_at rows j ≡ Some (get_or rows (j - 1) no_row).radius
floor-before rows zero h = absurd (h refl)
floor-before rows (suc j) h = let e : j ≡ suc j - 1 = omega arith in ap (λ n. Some (get_or rows n no_row).radius) e
