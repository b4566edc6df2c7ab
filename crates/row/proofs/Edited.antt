-- A change to one list of a part leaves the others.
use Rattle.std.proofs.Common.{◌≡◌, ℕ, ◌+◌, ◌≤◌, List, ◌++◌, length, take, drop, Option, refl, ap, ◌∙◌, arith}
use borrow.Rule.Slice.PartMut.{put_mid}
use Rattle.packed.specs.Lists.{Between, cut}
use Rattle.packed.proofs.Betweens.{between_then, between_wider, cut_above, cut_below, put_at}
use Rattle.packed.proofs.Packing.{length_cut}
use Rattle.rules.specs.Limits.{attractor_room, part_size, representative_room}
use Rattle.rules.specs.Views.{Entry}
use Rattle.rules.specs.declared.place.Place.{Place}
use Rattle.term.specs.declared.window.Stamp.{Stamp}
use Rattle.row.specs.declared.kept.Row.{Row}
use Rattle.row.specs.declared.settings.Settings.{Settings}
use Rattle.row.specs.Edits.{with_attractors, with_fine, with_representatives}
use Rattle.row.specs.Seen.{Within, entries, firsts_at, judged, latests_at, seen_row}

pub attractors_edited : {P : Type 0} (s : Settings) (row : Row) (n : ℕ) (xs ys : List (Place P)) (zs : List (Place P))
    → Between 0 (attractor_room s.k) xs ys
    → cut 0 n ys ≡ zs
    → seen_row s (record { radius = row.radius; attractors = n; representatives = row.representatives; entries = row.entries; lost = row.lost }) ys
    ≡ with_attractors zs (seen_row s row xs)
attractors_edited s row n xs ys zs b e =
    let reps : cut (attractor_room s.k) row.representatives ys ≡ cut (attractor_room s.k) row.representatives xs =
    cut_above 0 (attractor_room s.k) (attractor_room s.k) row.representatives xs ys b (omega arith) in
    let firsts : cut (firsts_at s) row.entries ys ≡ cut (firsts_at s) row.entries xs =
    cut_above 0 (attractor_room s.k) (firsts_at s) row.entries xs ys b (omega arith) in
    let latests : cut (latests_at s) row.entries ys ≡ cut (latests_at s) row.entries xs =
    cut_above 0 (attractor_room s.k) (latests_at s) row.entries xs ys b (omega arith) in
    cc

-- The slice of the attractors was handed on, and came back as ys, of which the first n are f of what they were.
pub attractors_put : {P : Type 0} (s : Settings) (row : Row) (f : List (Place P) → List (Place P)) (n : ℕ) (xs ys : List (Place P))
    → row.attractors ≤ attractor_room s.k → length xs ≡ part_size (judged s) → length ys ≡ row.attractors → n ≤ row.attractors
    → take n ys ≡ f (take row.attractors xs)
    → seen_row s (record { radius = row.radius; attractors = n; representatives = row.representatives; entries = row.entries; lost = row.lost }) (ys ++ drop row.attractors xs)
    ≡ with_attractors (f (take row.attractors xs)) (seen_row s row xs)
attractors_put s row f n xs ys few size long fewer is =
    let kept = put_at f 0 0 row.attractors row.attractors n xs ys refl refl (omega arith) long fewer is in
    attractors_edited s row n xs _ _
    (between_wider 0 (0 + row.attractors) 0 (attractor_room s.k) xs _ (omega arith) (omega arith) kept.1)
    kept.0

pub representatives_edited : {P : Type 0} (s : Settings) (row : Row) (n : ℕ) (xs ys : List (Place P)) (zs : List (Place P))
    → row.attractors ≤ attractor_room s.k
    → Between (attractor_room s.k) (firsts_at s) xs ys
    → cut (attractor_room s.k) n ys ≡ zs
    → seen_row s (record { radius = row.radius; attractors = row.attractors; representatives = n; entries = row.entries; lost = row.lost }) ys
    ≡ with_representatives zs (seen_row s row xs)
representatives_edited s row n xs ys zs h b e =
    let atts : cut 0 row.attractors ys ≡ cut 0 row.attractors xs =
    cut_below (attractor_room s.k) (firsts_at s) 0 row.attractors xs ys b (omega arith) in
    let firsts : cut (firsts_at s) row.entries ys ≡ cut (firsts_at s) row.entries xs =
    cut_above (attractor_room s.k) (firsts_at s) (firsts_at s) row.entries xs ys b (omega arith) in
    let latests : cut (latests_at s) row.entries ys ≡ cut (latests_at s) row.entries xs =
    cut_above (attractor_room s.k) (firsts_at s) (latests_at s) row.entries xs ys b (omega arith) in
    cc

-- The slice of the representatives was, from a computed start.
pub representatives_put : {P : Type 0} (s : Settings) (row : Row) (f : List (Place P) → List (Place P)) (start len n : ℕ) (xs ys : List (Place P))
    → start ≡ attractor_room s.k → len ≡ row.representatives
    → Within s row → length xs ≡ part_size (judged s) → length ys ≡ row.representatives → n ≤ row.representatives
    → take n ys ≡ f (take len (drop start xs))
    → seen_row s (record { radius = row.radius; attractors = row.attractors; representatives = n; entries = row.entries; lost = row.lost }) (put_mid start len xs ys)
    ≡ with_representatives (f (cut (attractor_room s.k) row.representatives xs)) (seen_row s row xs)
representatives_put s row f start len n xs ys from all w size long fewer is =
    let a = attractor_room s.k in
    let few = w.1 in
    let kept = put_at f start a len row.representatives n xs ys from all (omega arith) long fewer is in
    representatives_edited s row n xs _ _ w.0
    (between_wider a (a + row.representatives) a (firsts_at s) xs _ (omega arith) (omega arith) kept.1)
    kept.0

pub fine_edited : {P : Type 0} (s : Settings) (row : Row) (n : ℕ) (lost : Option Stamp) (high : ℕ) (xs ys : List (Place P)) (es : List (Entry P))
    → row.attractors ≤ attractor_room s.k
    → row.representatives ≤ representative_room s.k
    → Between (firsts_at s) high xs ys
    → entries (cut (firsts_at s) n ys) (cut (latests_at s) n ys) ≡ es
    → seen_row s (record { radius = row.radius; attractors = row.attractors; representatives = row.representatives; entries = n; lost = lost }) ys
    ≡ with_fine es lost (seen_row s row xs)
fine_edited s row n lost high xs ys es h k b e =
    let atts : cut 0 row.attractors ys ≡ cut 0 row.attractors xs =
    cut_below (firsts_at s) high 0 row.attractors xs ys b (omega arith) in
    let reps : cut (attractor_room s.k) row.representatives ys ≡ cut (attractor_room s.k) row.representatives xs =
    cut_below (firsts_at s) high (attractor_room s.k) row.representatives xs ys b (omega arith) in
    cc

-- The slices of both fine lists were, one after the other, each from a computed start.
pub fine_put : {P : Type 0} (s : Settings) (row : Row) (f : List (Place P) → List (Place P)) (lost : Option Stamp)
    (start len start2 len2 m n : ℕ) (xs us vs : List (Place P))
    → start ≡ firsts_at s → len ≡ row.entries → start2 ≡ latests_at s → len2 ≡ row.entries
    → Within s row → length xs ≡ part_size (judged s)
    → length us ≡ row.entries → m ≤ row.entries → length vs ≡ row.entries → n ≤ row.entries
    → length (f (cut (firsts_at s) row.entries xs)) ≡ length (f (cut (latests_at s) row.entries xs))
    → take m us ≡ f (take len (drop start xs))
    → take n vs ≡ f (take len2 (drop start2 (put_mid start len xs us)))
    → seen_row s (record { radius = row.radius; attractors = row.attractors; representatives = row.representatives; entries = n; lost = lost })
    (put_mid start2 len2 (put_mid start len xs us) vs)
    ≡ with_fine (entries (f (cut (firsts_at s) row.entries xs)) (f (cut (latests_at s) row.entries xs))) lost (seen_row s row xs)
fine_put {P} s row f lost start len start2 len2 m n xs us vs from all from2 all2 w size long fewer long2 fewer2 even is is2 =
    let a = firsts_at s in
    let b = latests_at s in
    let c = row.entries in
    let end = b + c in
    let few = w.2 in
    let ys : List (Place P) = put_mid start len xs us in
    let zs : List (Place P) = put_mid start2 len2 ys vs in
    let one = put_at f start a len c m xs us from all (omega arith) long fewer is in
    let ly = one.2 in
    let two = put_at f start2 b len2 c n ys vs from2 all2 (omega arith) long2 fewer2 is2 in
    let lz = two.2 in
    let latests : cut b n zs ≡ f (cut b c xs) = two.0 ∙ ap f (cut_above a (a + c) b c xs ys one.1 (omega arith)) in
    let lm : length (cut a m ys) ≡ m = length_cut a m ys (omega arith) in
    let ln : length (cut b n zs) ≡ n = length_cut b n zs (omega arith) in
    let e1 = ap length one.0 in
    let e2 = ap length latests in
    let mn : n ≡ m = omega arith in
    let firsts : cut a n zs ≡ f (cut a c xs) =
    cut_below b end a n ys zs two.1 (omega arith) ∙ ap (λ i. cut a i ys) mn ∙ one.0 in
    fine_edited s row n lost end xs zs _ w.0 w.1
    (between_then a end xs ys zs (between_wider a (a + c) a end xs ys (omega arith) (omega arith) one.1) (between_wider b end a end ys zs (omega arith) (omega arith) two.1))
    (ap (λ ts. entries ts (cut b n zs)) firsts ∙ ap (entries (f (cut a c xs))) latests)
