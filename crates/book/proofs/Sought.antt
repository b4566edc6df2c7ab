-- What is sought on the shelf, and refused where the shelf is too short.
use Rattle.std.proofs.Common.{◌≡◌, ℕ, ◌*◌, ◌<◌, ◌≤◌, true, false, eqb, List, [], ◌∷◌, length, get_or, take, Some, None, Err, Option, Result, sym, refl, ap, ◌∙◌, subst, arith}
use Rattle.std.specs.Option as option
use Rattle.std.proofs.lemmas.List.{get_or-take, length-take-le}
use Rattle.std.proofs.lemmas.Bool.{ltb-false}
use Rattle.picking.specs.Trials.{no_row}
use Rattle.refusal.specs.declared.Refusal.{Refusal}
use Rattle.refusal.specs.declared.Refusal.TheVariants.{ArrivalNotKept, ShelfTooShort}
use Rattle.row.specs.Seen.{Within, judged, seen_rows}
use Rattle.row.specs.declared.kept.Row.{Row}
use Rattle.row.specs.declared.settings.Settings.{Settings}
use Rattle.rules.specs.Calls.{FindRule, HandOutRule, lying_from, piece_of, place_of, short, why_not_seek}
use Rattle.rules.specs.Limits.{part_size}
use Rattle.rules.specs.Views as view
use Rattle.rules.specs.Views.{View}
use Rattle.rules.specs.Words.{after, first_of, first_reason, ok_or}
use Rattle.rules.specs.declared.place.Place.{Place}
use Rattle.book.specs.Rows.{RowsWithin}

pub seek_short : {P X : Type 0} (b : View P) (r : Result X Refusal) → true ≡ short b → Err ShelfTooShort ≡ after (why_not_seek b) r
seek_short b r e = ap (λ c. after (first_reason ((c, ShelfTooShort) ∷ [])) r) e

seek_goes : {P X : Type 0} (b : View P) (r : Result X Refusal) → false ≡ short b → r ≡ after (why_not_seek b) r
seek_goes b r e = ap (λ c. after (first_reason ((c, ShelfTooShort) ∷ [])) r) e

-- std says it in the other order
pub ok_or_same : {X : Type 0} (o : Option X) → option.ok_or o ArrivalNotKept ≡ ok_or ArrivalNotKept o
ok_or_same None = refl
ok_or_same (Some x) = refl

-- what is read by the radii, with settings s and rows seen as vs, is what the rules say
module _ {P : Type 0} (b : View P) (s : view.Settings) (vs : List (view.Row P)) (settled : s ≡ b.settings) (same : vs ≡ b.rows) (long : false ≡ short b) where
  read : {X : Type 0} (f : view.Settings → List (view.Row P) → Option X) (o : Option X) → o ≡ f s vs
      → ok_or ArrivalNotKept o ≡ after (why_not_seek b) (ok_or ArrivalNotKept (f b.settings b.rows))
  read f o e =
      ap (ok_or ArrivalNotKept) (e ∙ ap (λ t. f t vs) settled ∙ ap (f b.settings) same)
      ∙ seek_goes b (ok_or ArrivalNotKept (f b.settings b.rows)) long

  pub found : (a : ℕ) (o : Option ℕ) → o ≡ place_of (first_of (λ x. eqb x.1.arrival a) (lying_from s 0 vs)) → FindRule b a (ok_or ArrivalNotKept o)
  found a o e = read (λ t ws. place_of (first_of (λ x. eqb x.1.arrival a) (lying_from t 0 ws))) o e

  pub handed : (at : ℕ) (o : Option P) → o ≡ piece_of (first_of (λ x. eqb x.0 at) (lying_from s 0 vs)) → HandOutRule b at (ok_or ArrivalNotKept o)
  handed at o e = read (λ t ws. piece_of (first_of (λ x. eqb x.0 at) (lying_from t 0 ws))) o e

-- radii with these rows and places are seen so
pub seen-radii : {P : Type 0} (s t : Settings) (rows rs : List Row) (places xs : List (Place P)) → t ≡ s → rs ≡ rows → xs ≡ places → seen_rows t rs xs ≡ seen_rows s rows places
seen-radii s t rows rs places xs e1 e2 e3 =
    ap (λ (u : Settings). seen_rows u rs xs) e1 ∙ ap (λ (ys : List Row). seen_rows s ys xs) e2 ∙ ap (seen_rows s rows) e3

-- the rows of the radii are within their parts, and their parts lie on the shelf
pub live_within : (s : Settings) (n : ℕ) (rows live : List Row) → n ≤ 24 → live ≡ take n rows → RowsWithin s rows → n ≤ length rows
    → (j : ℕ) → j < length live → Within s (get_or live j no_row)
live_within s n rows live few e w l j h =
    let size = length-take-le n rows l in
    let here : j < n = let q = ap length e in omega arith in
    subst (Within s) (sym (ap (λ rs. get_or rs j no_row) e ∙ get_or-take n rows j no_row here)) (w j (omega arith))

pub live_bounded : (n : ℕ) (rows live : List Row) → n ≤ 24 → live ≡ take n rows → ((j : ℕ) → j < 24 → (get_or rows j no_row).radius ≤ 1000000) → n ≤ length rows
    → (j : ℕ) → j < length live → (get_or live j no_row).radius ≤ 1000000
live_bounded n rows live few e w l j h =
    let size = length-take-le n rows l in
    let here : j < n = let q = ap length e in omega arith in
    let same = ap (λ r. r.radius) (ap (λ rs. get_or rs j no_row) e ∙ get_or-take n rows j no_row here) in
    let low = w j (omega arith) in
    omega arith

pub live_long : {P : Type 0} (s : Settings) (n : ℕ) (rows live : List Row) (xs : List (Place P)) (p d : ℕ) → live ≡ take n rows → n ≤ length rows
    → false ≡ short (record { settings = judged s; rows = seen_rows s (take n rows) xs; posts = p; day = d; places = length xs })
    → length (seen_rows s (take n rows) xs) ≡ n
    → length live * part_size (judged s) ≤ length xs
live_long s n rows live xs p d e l q len =
    let low = ltb-false (length xs) (length (seen_rows s (take n rows) xs) * part_size (judged s)) (sym q) in
    let size = ap length e ∙ length-take-le n rows l ∙ sym len in
    subst (λ m. m * part_size (judged s) ≤ length xs) (sym size) low

pub not_short : {P : Type 0} (s : Settings) (n : ℕ) (rows : List Row) (xs : List (Place P)) (p d : ℕ)
    → false ≡ short (record { settings = judged s; rows = seen_rows s (take n rows) xs; posts = p; day = d; places = length xs })
    → length (seen_rows s (take n rows) xs) ≡ n
    → n * part_size (judged s) ≤ length xs
not_short s n rows xs p d q len =
    subst (λ m. m * part_size (judged s) ≤ length xs) len (ltb-false (length xs) (length (seen_rows s (take n rows) xs) * part_size (judged s)) (sym q))
