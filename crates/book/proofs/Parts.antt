-- A change of one part of the shelf is a change of one row as seen.
use Rattle.std.proofs.Common.{◌≡◌, ℕ, zero, suc, ◌+◌, ◌*◌, ◌<◌, List, [], ◌∷◌, length, take, drop, set, sym, ap, ◌∙◌, subst, suc-mul, add_comm, zero-add, zero-mul, arith}
use Rattle.std.proofs.lemmas.List.{drop-drop, drop-take, take-take}
use Rattle.packed.specs.Lists.{Between, cut}
use Rattle.row.specs.Seen.{judged, seen_row, seen_rows}
use Rattle.row.specs.declared.kept.Row.{Row}
use Rattle.row.specs.declared.settings.Settings.{Settings}
use Rattle.rules.specs.Limits.{part_size}
use Rattle.rules.specs.declared.place.Place.{Place}

-- the same between, on what lies behind the first part
behind : {X : Type 0} (w low high : ℕ) (xs ys : List X) → Between (w + low) (w + high) xs ys → Between low high (drop w xs) (drop w ys)
behind w low high xs ys b = record {
  before = sym (drop-take w low ys) ∙ ap (drop w) b.before ∙ drop-take w low xs;
  after = drop-drop high w ys ∙ b.after ∙ sym (drop-drop high w xs);
}

pub seen-set : {P : Type 0} (s : Settings) (rows : List Row) (j : ℕ) (xs ys : List (Place P)) (row : Row) → j < length rows
    → Between (j * part_size (judged s)) (j * part_size (judged s) + part_size (judged s)) xs ys
    → seen_rows s (set rows j row) ys ≡ set (seen_rows s rows xs) j (seen_row s row (cut (j * part_size (judged s)) (part_size (judged s)) ys))
seen-set s [] j xs ys row h b = let z : ⊥ = omega arith in absurd z
seen-set s (r ∷ rs) zero xs ys row h b =
    let w = part_size (judged s) in
    let after : drop w ys ≡ drop w xs = rw (zero-mul, zero-add) at b.after in
    ap (λ n. seen_row s row (take w (drop n ys)) ∷ seen_rows s rs (drop w ys)) (sym (zero-mul w))
    ∙ ap (λ zs. seen_row s row (cut (0 * w) w ys) ∷ seen_rows s rs zs) after
seen-set {P} s (r ∷ rs) (suc j) xs ys row h b =
    let w = part_size (judged s) in
    let e : suc j * w ≡ w + j * w = suc-mul j w ∙ add_comm (j * w) w in
    let low : Between (w + j * w) (w + (j * w + w)) xs ys = subst (λ n. Between n (w + (j * w + w)) xs ys) e (subst (λ n. Between (suc j * w) n xs ys) (omega (arith, e)) b) in
    let front : take w ys ≡ take w xs = sym (take-take w (w + j * w) ys (omega arith)) ∙ ap (take w) low.before ∙ take-take w (w + j * w) xs (omega arith) in
    let rest = seen-set s rs j (drop w xs) (drop w ys) row (omega arith) (behind w (j * w) (j * w + w) xs ys low) in
    let part : cut (j * w) w (drop w ys) ≡ cut (suc j * w) w ys = ap (take w) (drop-drop (j * w) w ys ∙ ap (λ n. drop n ys) (sym e)) in
    ap (λ p. seen_row s r p ∷ seen_rows s (set rs j row) (drop w ys)) front
    ∙ ap (λ v. seen_row s r (take w xs) ∷ v) rest
    ∙ ap (λ p. seen_row s r (take w xs) ∷ set (seen_rows s rs (drop w xs)) j (seen_row s row p)) part
