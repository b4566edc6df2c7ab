-- The rows as seen, one after another.
use Rattle.std.proofs.Common.{◌≡◌, ℕ, zero, suc, ◌+◌, ◌-◌, ◌*◌, ◌<◌, ◌≤◌, ◌&&◌, leb, List, [], ◌∷◌, length, get_or, take, drop, sym, refl, ap, ◌∙◌, mul-le-mul_right, suc-mul, add_comm, zero-mul, arith}
use Rattle.std.proofs.lemmas.List.{drop-drop, drop-take, length-take-le, take-take}
use Rattle.packed.specs.Lists.{cut}
use Rattle.row.specs.Seen.{Within, judged, seen_row, seen_rows}
use Rattle.row.specs.declared.kept.Row.{Row}
use Rattle.row.specs.declared.settings.Settings.{Settings}
use Rattle.rules.specs.Limits.{part_size}
use Rattle.rules.specs.Picking.{choose, passes}
use Rattle.cover.specs.Distances.{Distance}
use Rattle.rules.specs.Views as view
use Rattle.rules.specs.declared.place.Place.{Place}
use Rattle.picking.specs.Trials.{no_row, row_at}
use Rattle.packed.proofs.Packing.{length_cut}

-- a part of a part
pub cut-cut : {X : Type 0} (a n b w : ℕ) (xs : List X) → a + n ≤ w → cut a n (cut b w xs) ≡ cut (b + a) n xs
cut-cut a n b w xs h =
    let q : w ≡ a + (w - a) = omega arith in
    ap (λ m. take n (drop a (take m (drop b xs)))) q
    ∙ ap (take n) (drop-take a (w - a) (drop b xs))
    ∙ take-take n (w - a) (drop a (drop b xs)) (omega arith)
    ∙ ap (take n) (drop-drop a b xs)

pub length_seen : {P : Type 0} (s : Settings) (rows : List Row) (places : List (Place P)) → length (seen_rows s rows places) ≡ length rows
length_seen s [] places = refl
length_seen s (row ∷ rows) places = ap suc (length_seen s rows (drop (part_size (judged s)) places))

-- the row at j, with its part
pub seen_at : {P : Type 0} (s : Settings) (rows : List Row) (places : List (Place P)) (j : ℕ) (d : view.Row P) → j < length rows
    → get_or (seen_rows s rows places) j d ≡ row_at s rows places j
seen_at s [] places j d h = let z : ⊥ = omega arith in absurd z
seen_at s (row ∷ rows) places zero d h =
    let w = part_size (judged s) in
    ap (λ n. seen_row s row (take w (drop n places))) (sym (zero-mul w))
seen_at s (row ∷ rows) places (suc j) d h =
    let w = part_size (judged s) in
    let e : w + j * w ≡ suc j * w = add_comm w (j * w) ∙ sym (suc-mul j w) in
    seen_at s rows (drop w places) j d (omega arith)
    ∙ ap (λ ys. seen_row s (get_or rows j no_row) (take w ys)) (drop-drop (j * w) w places ∙ ap (λ n. drop n places) e)

-- part j lies on the shelf
pub part_room : (j n w m : ℕ) → j < n → n * w ≤ m → j * w + w ≤ m
part_room j n w m l h =
    let q : suc j * w ≤ n * w = mul-le-mul_right w l in
    omega (arith, suc-mul j w)

-- whether the row at j passes
pub passes_at : {P : Type 0} (dist : Distance P) (s : Settings) (rows : List Row) (places : List (Place P)) (j : ℕ) (d : view.Row P)
    → length rows * part_size (judged s) ≤ length places → j < length rows → Within s (get_or rows j no_row)
    → passes dist s.k (get_or (seen_rows s rows places) j d)
    ≡ leb (get_or rows j no_row).attractors s.k && leb (length (choose dist (2 * (get_or rows j no_row).radius) [] (row_at s rows places j).representatives)) s.k
passes_at dist s rows places j d long h fits =
    let w = part_size (judged s) in
    let row = get_or rows j no_row in
    let low = fits.0 in
    let part = cut (j * w) w places in
    let room = part_room j (length rows) w (length places) h long in
    let size : length part ≡ w = length_cut (j * w) w places room in
    let first : length (cut 0 row.attractors part) ≡ row.attractors = length-take-le row.attractors part (omega arith) in
    ap (passes dist s.k) (seen_at s rows places j d h)
    ∙ ap (λ n. leb n s.k && leb (length (choose dist (2 * row.radius) [] (row_at s rows places j).representatives)) s.k) first
