-- Whether there is nothing to pick.
use Rattle.std.proofs.Common.{◌≡◌, ℕ, zero, suc, ◌*◌, ◌≤◌, eqb, List, [], ◌∷◌, length, get_or, take, drop, sym, refl, zero-mul, arith, length-drop}
use Rattle.std.proofs.lemmas.List.{length-take-le}
use Rattle.std.proofs.lemmas.Bool.{ne_eqb}
use Rattle.picking.proofs.Shelves.{part_room}
use Rattle.picking.specs.Trials.{no_row}
use Rattle.row.specs.Seen.{Within, judged, seen_rows}
use Rattle.row.specs.declared.kept.Row.{Row}
use Rattle.row.specs.declared.settings.Settings.{Settings}
use Rattle.rules.specs.Calls.{nothing_in}
use Rattle.rules.specs.Limits.{attractor_room, part_size}
use Rattle.rules.specs.Words.{is_empty}
use Rattle.rules.specs.declared.place.Place.{Place}

-- the first radius has no representative
pub first_empty : {P : Type 0} (s : Settings) (n : ℕ) (rows : List Row) (xs : List (Place P)) → 1 ≤ n → n ≤ length rows → n * part_size (judged s) ≤ length xs
    → Within s (get_or rows 0 no_row) → nothing_in (seen_rows s (take n rows) xs) ≡ eqb (get_or rows 0 no_row).representatives 0
first_empty s n [] xs h l m w = let z : ⊥ = omega arith in absurd z
first_empty s zero (r ∷ rows) xs h l m w = let z : ⊥ = omega arith in absurd z
first_empty {P} s (suc n) (r ∷ rows) xs h l m w =
    let size = part_size (judged s) in
    let room = part_room 0 (suc n) size (length xs) (omega arith) m in
    let few = w.1 in
    let part : length (take size xs) ≡ size = length-take-le size xs (omega (arith, zero-mul size)) in
    go r.representatives (drop (attractor_room s.k) (take size xs)) (let d = length-drop (attractor_room s.k) (take size xs) in omega arith)
  where
    go : (m : ℕ) (ys : List (Place P)) → m ≤ length ys → is_empty (take m ys) ≡ eqb m 0
    go zero ys h = refl
    go (suc m) [] h = let z : ⊥ = omega arith in absurd z
    go (suc m) (y ∷ ys) h = sym (ne_eqb (suc m) 0 (omega arith))
