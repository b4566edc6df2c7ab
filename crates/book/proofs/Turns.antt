-- One radius more is changed.
use Rattle.std.proofs.Common.{◌≡◌, ℕ, ◌+◌, ◌*◌, ◌<◌, ◌≤◌, List, map, length, get_or, take, set, sym, ap, ◌∙◌, subst, add-one, arith}
use Rattle.std.specs.List.{AllByRecursion as Every}
use Rattle.std.proofs.ByRecursion.{All-get_or}
use Rattle.std.proofs.lemmas.List.{get_or-map, get_or-take, length-map, length-take-le}
use Rattle.packed.specs.Lists.{cut}
use Rattle.picking.proofs.Shelves.{seen_at}
use Rattle.picking.specs.Trials.{no_row}
use Rattle.row.specs.Seen.{judged, seen_row, seen_rows}
use Rattle.row.specs.declared.kept.Row.{Row}
use Rattle.row.specs.declared.settings.Settings.{Settings}
use Rattle.rules.specs.Limits.{part_size}
use Rattle.rules.specs.Promises.{RowFits}
use Rattle.rules.specs.Views as view
use Rattle.rules.specs.declared.place.Place.{Place}
use Rattle.book.proofs.Steps.{partway, partway_at, partway_more}

-- what a change of row j promises
abbrev pub Changed : {P : Type 0} → (Settings → view.Row P → view.Row P) → Settings → ℕ → List Row → List (Place P) → List Row → List (Place P) → ℕ → Type 0
Changed f s n rows xs rows2 ys j =
    RowFits (judged s) (f s (seen_row s (get_or rows j no_row) (cut (j * part_size (judged s)) (part_size (judged s)) xs)))
    → seen_rows s (take n rows2) ys
    ≡ set (seen_rows s (take n rows) xs) j (f s (seen_row s (get_or rows j no_row) (cut (j * part_size (judged s)) (part_size (judged s)) xs)))

pub turn_more : {P : Type 0} (f : Settings → view.Row P → view.Row P) (s : Settings) (n j : ℕ) (v : List (view.Row P)) (rows rows2 : List Row) (xs ys : List (Place P))
    → j < n → n ≤ length rows → length v ≡ n
    → Every (RowFits (judged s)) (map (f s) v)
    → seen_rows s (take n rows) xs ≡ partway (f s) j v
    → Changed f s n rows xs rows2 ys j
    → seen_rows s (take n rows2) ys ≡ partway (f s) (j + 1) v
turn_more {P} f s n j v rows rows2 xs ys h l lv fits so_far changed =
    let w = part_size (judged s) in
    let here : view.Row P = seen_row s (get_or rows j no_row) (cut (j * w) w xs) in
    let size : length (take n rows) ≡ n = length-take-le n rows l in
    let seen : get_or (seen_rows s (take n rows) xs) j here ≡ here =
    seen_at s (take n rows) xs j here (omega arith)
    ∙ ap (λ r. seen_row s r (cut (j * w) w xs)) (get_or-take n rows j no_row h) in
    let old : get_or (partway (f s) j v) j here ≡ here = ap (λ rs. get_or rs j here) (sym so_far) ∙ seen in
    let was : get_or v j here ≡ here = sym (partway_at (f s) j v here (omega arith)) ∙ old in
    let lm : length (map (f s) v) ≡ length v = length-map v (f s) in
    let fit : RowFits (judged s) (get_or (map (f s) v) j (f s here)) = All-get_or (RowFits (judged s)) (map (f s) v) j (f s here) (omega arith) fits in
    let same : get_or (map (f s) v) j (f s here) ≡ f s here = get_or-map (f s) v j here (f s here) (omega arith) ∙ ap (f s) was in
    changed (subst (RowFits (judged s)) same fit)
    ∙ ap (λ rs. set rs j (f s here)) so_far
    ∙ ap (λ r. set (partway (f s) j v) j (f s r)) (sym old)
    ∙ partway_more (f s) j v here (omega arith)
    ∙ ap (λ m. partway (f s) m v) (sym (add-one j))
