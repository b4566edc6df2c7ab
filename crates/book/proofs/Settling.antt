-- Setting up: radii in an array, and rows made of them.
use Rattle.std.proofs.Common.{◌≡◌, ℕ, zero, suc, ◌+◌, ◌-◌, ◌<◌, ◌≤◌, Bool, true, false, cond, not, ◌&&◌, leb, List, [], ◌∷◌, map, length, get_or, take, drop, set, Some, None, Ok, Err, sym, refl, ap, ◌∙◌, subst, inl, inr, arith}
use Rattle.std.proofs.lemmas.List.{get_or-set_other, get_or-set_same, length-take-le, take-map, take_more_set}
use Rattle.std.proofs.lemmas.Bool.{cases_eq, leb-false, leb-true, lt-leb}
use Rattle.refusal.specs.declared.Refusal.{Refusal}
use Rattle.refusal.specs.declared.Refusal.TheVariants.{RadiusListFull, RadiusNotAllowed}
use Rattle.picking.specs.Trials.{no_row}
use Rattle.row.specs.Seen.{Within, judged, seen_rows}
use Rattle.row.specs.declared.kept.Row.{Row}
use Rattle.row.specs.declared.settings.Settings.{Settings}
use Rattle.rules.specs.Calls.{OpenRule, RadiusRule, why_not_radius, with_radius}
use Rattle.rules.specs.Limits.{Judged, allowed, greatest_radius}
use Rattle.rules.specs.Steps.{bare}
use Rattle.rules.specs.Views as view
use Rattle.rules.specs.Words.{after, first_reason, last_of, leaves}
use Rattle.rules.specs.declared.place.Place.{Place}
use Rattle.book.specs.Rows.{RadiiBounded, RowsWithin, empty_row}
use Rattle.book.proofs.Refused.{second_of, unrefused}

pub judged-holds : (s : Settings) → Judged (judged s)
judged-holds s = (s.some, s.few, s.fine, s.finest, s.entry, s.entries)

-- the last of the first n + 1
pub last_of_lem : (d : ℕ) (n : ℕ) (xs : List ℕ) → n < length xs → last_of d (take (suc n) xs) ≡ get_or xs n 0
last_of_lem d n [] h = let z : ⊥ = omega arith in absurd z
last_of_lem d zero (x ∷ xs) h = refl
last_of_lem d (suc n) (x ∷ xs) h = last_of_lem x n xs (omega arith)

-- where the list is not full, the last of it decides
pub why-last : (s : view.Settings) (xs : List ℕ) (n g : ℕ) (b : Bool) → 1 ≤ n → n < 24 → n ≤ length xs
    → b ≡ (allowed (get_or xs (n - 1) 0) g && leb g greatest_radius)
    → why_not_radius (record { settings = s; radii = take n xs }) g ≡ cond b None (Some RadiusNotAllowed)
why-last s xs n g b h k l e =
    let m : n ≡ suc (n - 1) = omega arith in
    let len : length (take n xs) ≡ n = length-take-le n xs l in
    let last : last_of 0 (take n xs) ≡ get_or xs (n - 1) 0 = ap (λ i. last_of 0 (take i xs)) m ∙ last_of_lem 0 (n - 1) xs (omega arith) in
    ap (λ i. first_reason ((leb 24 i, RadiusListFull) ∷ (not (allowed (last_of 0 (take n xs)) g && leb g greatest_radius), RadiusNotAllowed) ∷ [])) len
    ∙ ap (λ c. first_reason ((c, RadiusListFull) ∷ (not (allowed (last_of 0 (take n xs)) g && leb g greatest_radius), RadiusNotAllowed) ∷ [])) (lt-leb 24 n k)
    ∙ ap (λ i. first_reason ((false, RadiusListFull) ∷ (not (allowed i g && leb g greatest_radius), RadiusNotAllowed) ∷ [])) last
    ∙ ap (λ c. first_reason ((false, RadiusListFull) ∷ (not c, RadiusNotAllowed) ∷ [])) (sym e)
    ∙ go b
  where
    go : (b : Bool) → first_reason ((false, RadiusListFull) ∷ (not b, RadiusNotAllowed) ∷ []) ≡ cond b None (Some RadiusNotAllowed)
    go true = refl
    go false = refl

pub bounded_set : (xs : List ℕ) (n g : ℕ) → n < length xs → g ≤ 1000000 → ((j : ℕ) → j < 24 → get_or xs j 0 ≤ 1000000)
    → (j : ℕ) → j < 24 → get_or (set xs n g) j 0 ≤ 1000000
bounded_set xs n g h k f j l =
    elim (cases_eq j n) [
      | inl e ↦ let here : get_or (set xs n g) j 0 ≡ g = ap (λ i. get_or (set xs n g) i 0) e ∙ get_or-set_same xs n g 0 h in omega arith
      | inr ne ↦ let there : get_or (set xs n g) j 0 ≡ get_or xs j 0 = get_or-set_other xs n j g 0 ne in let low = f j l in omega arith
    ]

-- a book with no piece is as the rules open it
pub opened : {P : Type 0} (s : Settings) (radii : List ℕ) (places : List (Place P)) → seen_rows s (map empty_row radii) places ≡ map bare radii
opened s [] places = refl
opened s (g ∷ radii) places = ap (λ rs. bare g ∷ rs) (opened s radii (drop _ places))

-- what is not refused has room, and is not too large
pub none_room : (s : view.Settings) (ys : List ℕ) (g : ℕ) → why_not_radius (record { settings = s; radii = ys }) g ≡ None → (length ys < 24) × (g ≤ 1000000)
none_room s ys g e =
    let one = unrefused (leb 24 (length ys)) RadiusListFull _ e in
    let two = unrefused (not (allowed (last_of 0 ys) g && leb g greatest_radius)) RadiusNotAllowed None one.1 in
    (leb-false 24 (length ys) one.0, leb-true g greatest_radius (second_of (allowed (last_of 0 ys) g) (leb g greatest_radius) two.0))

-- rows of radii that are not too large
rows_at : (gs : List ℕ) (rows : List Row) (j : ℕ) → rows ≡ map empty_row gs → get_or rows j no_row ≡ empty_row (get_or gs j 0)
rows_at gs rows j e = ap (λ rs. get_or rs j no_row) e ∙ go gs j
  where
    go : (gs : List ℕ) (j : ℕ) → get_or (map empty_row gs) j no_row ≡ empty_row (get_or gs j 0)
    go [] j = refl
    go (g ∷ gs) zero = refl
    go (g ∷ gs) (suc j) = go gs j

pub rows-within : (s : Settings) (gs : List ℕ) (rows : List Row) → rows ≡ map empty_row gs → RowsWithin s rows
rows-within s gs rows e j h = subst (Within s) (sym (rows_at gs rows j e)) (omega arith, omega arith, omega arith)

pub rows_bounded : (gs : List ℕ) (rows : List Row) → rows ≡ map empty_row gs → ((j : ℕ) → j < 24 → get_or gs j 0 ≤ 1000000) → RadiiBounded rows
rows_bounded gs rows e f j h = let low = f j h in let is = ap (λ r. r.radius) (rows_at gs rows j e) in omega arith

pub rows-opened : {P : Type 0} (s : Settings) (n : ℕ) (gs : List ℕ) (rows : List Row) (places : List (Place P)) → rows ≡ map empty_row gs
    → seen_rows s (take n rows) places ≡ map bare (take n gs)
rows-opened s n gs rows places e =
    ap (λ rs. seen_rows s (take n rs) places) e
    ∙ ap (λ rs. seen_rows s rs places) (take-map empty_row n gs)
    ∙ opened s (take n gs) places

pub radius-refused : (u : view.Setup) (g : ℕ) (e : Refusal) → why_not_radius u g ≡ Some e → RadiusRule u g (Err e) u
radius-refused u g e q = record {
  answer = ap (λ o. after o (Ok tt)) (sym q);
  left = ap (λ o. leaves o u (with_radius u g)) (sym q);
}

pub radius-entered : (s : view.Settings) (xs : List ℕ) (n g : ℕ) → n < length xs → why_not_radius (record { settings = s; radii = take n xs }) g ≡ None
    → RadiusRule (record { settings = s; radii = take n xs }) g (Ok tt) (record { settings = s; radii = take (n + 1) (set xs n g) })
radius-entered s xs n g h q =
    let u : view.Setup = record { settings = s; radii = take n xs } in
    record {
      answer = ap (λ o. after o (Ok tt)) (sym q);
      left =
          ap (λ ys. record { settings = s; radii = ys }) (take_more_set xs n g h)
          ∙ ap (λ o. leaves o u (with_radius u g)) (sym q);
    }

pub book-opened : {P : Type 0} (s : Settings) (n : ℕ) (gs : List ℕ) (rows : List Row) (places : List (Place P)) → rows ≡ map empty_row gs
    → OpenRule (record { settings = judged s; radii = take n gs }) (length places)
    (record { settings = judged s; rows = seen_rows s (take n rows) places; posts = 0; day = 0; places = length places })
book-opened s n gs rows places e =
    ap (λ rs. record { settings = judged s; rows = rs; posts = 0; day = 0; places = length places }) (rows-opened s n gs rows places e)

pub true_not_false : true ≡ false → ⊥
true_not_false e = let z : ◌≡◌ {A = ℕ} 0 1 = cc in omega arith

-- rows made of radii one by one
pub rows-mapped : (gs : List ℕ) (rows : List Row) → length rows ≡ length gs
    → ((i : ℕ) → i < length gs → get_or rows i no_row ≡ empty_row (get_or gs i 0)) → rows ≡ map empty_row gs
rows-mapped [] [] l each = refl
rows-mapped [] (r ∷ rs) l each = let z : ⊥ = omega arith in absurd z
rows-mapped (g ∷ gs) [] l each = let z : ⊥ = omega arith in absurd z
rows-mapped (g ∷ gs) (r ∷ rs) l each =
    ap (λ r. r ∷ rs) (each 0 (omega arith)) ∙ ap (λ rs. empty_row g ∷ rs) (rows-mapped gs rs (omega arith) (λ i h. each (suc i) (omega arith)))
