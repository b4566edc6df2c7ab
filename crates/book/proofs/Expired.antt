-- What is left after an expiry fits where the lists did.
use Rattle.std.proofs.Common.{ℕ, zero, suc, ◌<◌, ◌≤◌, Bool, true, false, cond, List, [], ◌∷◌, map, length, get_or, take, drop, filter, arith, length-take}
use Rattle.std.specs.List.{AllByRecursion as Every}
use Rattle.packed.specs.Lists.{cut}
use Rattle.picking.specs.Trials.{no_row}
use Rattle.row.specs.Seen.{Within, entries, firsts_at, judged, latests_at, seen_row, seen_rows}
use Rattle.row.specs.declared.kept.Row.{Row}
use Rattle.row.specs.declared.settings.Settings.{Settings}
use Rattle.rules.specs.Limits.{attractor_room, part_size}
use Rattle.rules.specs.Promises.{RowFits}
use Rattle.rules.specs.Steps.{alive, expire}
use Rattle.rules.specs.declared.place.Place.{Place}
use Rattle.term.specs.Formulas.{Rule}

kept_fewer : {X : Type 0} (f : X → Bool) (xs : List X) → length (filter f xs) ≤ length xs
kept_fewer f [] = omega arith
kept_fewer f (x ∷ xs) = go (kept_fewer f xs) (f x)
  where
    go : length (filter f xs) ≤ length xs → (b : Bool) → length (cond b (x ∷ filter f xs) (filter f xs)) ≤ suc (length xs)
    go h true = omega arith
    go h false = omega arith

entries_fewer : {P : Type 0} (xs ys : List (Place P)) → length (entries xs ys) ≤ length xs
entries_fewer [] ys = omega arith
entries_fewer (x ∷ xs) [] = omega arith
entries_fewer (x ∷ xs) (y ∷ ys) = let h = entries_fewer xs ys in omega arith

cut_short : {X : Type 0} (a n : ℕ) (xs : List X) → length (cut a n xs) ≤ n
cut_short a n xs = let h = length-take n (drop a xs) in omega arith

row_fits : {P : Type 0} (counts : Rule) (m d : ℕ) (s : Settings) (row : Row) (xs : List (Place P)) → Within s row → RowFits (judged s) (expire counts m d (seen_row s row xs))
row_fits {P} counts m d s row xs w =
    let a = w.0 in
    let b = w.1 in
    let c = w.2 in
    let k1 = kept_fewer (alive counts m d) (cut 0 row.attractors xs) in
    let c1 = cut_short 0 row.attractors xs in
    let k2 = kept_fewer (alive counts m d) (cut (attractor_room s.k) row.representatives xs) in
    let c2 = cut_short (attractor_room s.k) row.representatives xs in
    let k3 = kept_fewer (λ e. alive counts m d e.latest) (entries (cut (firsts_at s) row.entries xs) (cut (latests_at s) row.entries xs)) in
    let e3 = entries_fewer (cut (firsts_at s) row.entries xs) (cut (latests_at s) row.entries xs) in
    let c3 = cut_short (firsts_at s) row.entries xs in
    (omega arith, omega arith, omega arith)

pub expired_fits : {P : Type 0} (counts : Rule) (m d : ℕ) (s : Settings) (n : ℕ) (rows : List Row) (xs : List (Place P))
    → ((j : ℕ) → j < n → Within s (get_or rows j no_row))
    → Every (RowFits (judged s)) (map (expire counts m d) (seen_rows s (take n rows) xs))
expired_fits counts m d s zero rows xs w = tt
expired_fits counts m d s (suc n) [] xs w = tt
expired_fits counts m d s (suc n) (r ∷ rows) xs w = (
  row_fits counts m d s r (take (part_size (judged s)) xs) (w 0 (omega arith)),
  expired_fits counts m d s n rows (drop (part_size (judged s)) xs) (λ j h. w (suc j) (omega arith)),
)
