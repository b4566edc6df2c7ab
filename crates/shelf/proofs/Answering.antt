-- What a pick answers, from what it chose.
use Rattle.std.proofs.Common.{◌≡◌, ℕ, ◌+◌, ◌-◌, ◌*◌, ◌<◌, ◌≤◌, List, [], ◌∷◌, length, get_or, take, drop, Some, Ok, Option, Result, length-drop, ap, ◌∙◌, subst, arith}
use Rattle.std.proofs.lemmas.List.{take_all}
use Rattle.packed.specs.Lists.{cut}
use Rattle.packed.proofs.Packing.{length_cut}
use Rattle.cover.specs.Choices.{farthest_first, reach}
use Rattle.cover.specs.Distances.{Distance}
use Rattle.picking.specs.Centres.{Chosen}
use Rattle.picking.specs.Trials.{floor_at, no_row, row_at, taken_at}
use Rattle.picking.proofs.Shelves.{part_room}
use Rattle.refusal.specs.declared.Refusal.{Refusal}
use Rattle.row.specs.Seen.{judged, seen_row}
use Rattle.row.specs.declared.kept.Row.{Row}
use Rattle.row.specs.declared.settings.Settings.{Settings}
use Rattle.rules.specs.Limits.{part_size}
use Rattle.rules.specs.Picking.{Taken, apart, grain_by, pick_among, pick_from, slack, used}
use Rattle.rules.specs.declared.picked.Grain.{Grain}
use Rattle.rules.specs.declared.picked.Picked.{Picked}
use Rattle.rules.specs.declared.place.Place.{Place}
use Rattle.term.specs.Formulas.{Rule}
use Rattle.shelf.specs.Picks.{Among, standing}

pub among_chosen : {P : Type 0} (dist : Distance P) (s : Settings) (t : Taken P) (grain : Grain) (n : ℕ) (floor : Option ℕ) (list : List (Place P))
    (old new work work2 : List ℕ) (count far : ℕ) → 1 ≤ length list
    → Chosen (apart dist) (λ x. x.arrival) s.k list old new count far
    → floor ≡ t.floor → n ≡ slack grain s.fineness t.row
    → Among (pick_among dist (judged s) t grain list) old work (Ok (record { count = count; radius = far + n; floor = floor; grain = grain })) new work2
among_chosen dist s t grain n floor [] old new work work2 count far h c e1 e2 = let z : ⊥ = omega arith in absurd z
among_chosen {P} dist s t grain n floor (x ∷ xs) old new work work2 count far h c e1 e2 =
    let cs : List (Place P) = farthest_first (apart dist) s.k (x ∷ xs) in
    let reached : ℕ = reach (apart dist) cs (x ∷ xs) in
    record {
      answer =
          ap (λ i. Ok (record { count = i; radius = far + n; floor = floor; grain = grain })) c.counted
          ∙ ap (λ i. Ok (record { count = length cs; radius = i + n; floor = floor; grain = grain })) c.reached
          ∙ ap (λ i. Ok (record { count = length cs; radius = reached + i; floor = floor; grain = grain })) e2
          ∙ ap (λ o. Ok (record { count = length cs; radius = reached + slack grain s.fineness t.row; floor = o; grain = grain })) e1;
      written = c.written;
      spared = tt;
    }

-- what is taken at j
abbrev pub taken_here : {P : Type 0} → Settings → List Row → List (Place P) → ℕ → Taken P
taken_here s rows places j = record { row = row_at s rows places j; floor = floor_at rows j }

pub picked_at : {P : Type 0} (dist : Distance P) (counts : Rule) (s : Settings) (rows : List Row) (places : List (Place P)) (j p d : ℕ) (grain : Grain) (list : List (Place P))
    (old work : List ℕ) (r : Result Picked Refusal) (old2 work2 : List ℕ)
    → grain ≡ grain_by counts p d (get_or rows j no_row).lost
    → list ≡ used grain (taken_here s rows places j).row
    → Among (pick_among dist (judged s) (taken_here s rows places j) grain list) old work r old2 work2
    → Among (pick_from dist counts (standing s rows p d places) (taken_at s rows places (Some j))) old work r old2 work2
picked_at {P} dist counts s rows places j p d grain list old work r old2 work2 e u a =
    let t : Taken P = taken_here s rows places j in
    let is : pick_among dist (judged s) t grain list ≡ pick_among dist (judged s) t (grain_by counts p d t.row.lost) (used (grain_by counts p d t.row.lost) t.row) =
    ap (pick_among dist (judged s) t grain) u
    ∙ ap (λ g. pick_among dist (judged s) t g (used g t.row)) e in
    subst (λ q. Among q old work r old2 work2) is a

-- the part of the radius at j, as it is cut from the places
module _ {P : Type 0} (s : Settings) (rows : List Row) (places : List (Place P)) (j w : ℕ) (e : w ≡ part_size (judged s)) (long : length rows * part_size (judged s) ≤ length places) (h : j < length rows) where
  abbrev pub part : List (Place P)
  part = take w (take (length places - j * w) (drop (j * w) places))

  pub part_at : part ≡ cut (j * part_size (judged s)) (part_size (judged s)) places
  part_at =
      let room = part_room j (length rows) (part_size (judged s)) (length places) h long in
      ap (λ n. take n (take (length places - j * n) (drop (j * n) places))) e
      ∙ ap (take (part_size (judged s))) (take_all (length places - j * part_size (judged s)) (drop (j * part_size (judged s)) places) (simp length-drop (omega arith)))

  pub part_long : length part ≡ part_size (judged s)
  part_long =
      ap length part_at
      ∙ length_cut (j * part_size (judged s)) (part_size (judged s)) places (part_room j (length rows) (part_size (judged s)) (length places) h long)

  pub used_at : (grain : Grain) (list : List (Place P)) → list ≡ used grain (seen_row s (get_or rows j no_row) part)
      → list ≡ used grain (row_at s rows places j)
  used_at grain list u = u ∙ ap (λ xs. used grain (seen_row s (get_or rows j no_row) xs)) part_at

  pub slack_at : (grain : Grain) (n : ℕ) → n ≡ slack grain s.fineness (seen_row s (get_or rows j no_row) part)
      → n ≡ slack grain s.fineness (row_at s rows places j)
  slack_at grain n u = u ∙ ap (λ xs. slack grain s.fineness (seen_row s (get_or rows j no_row) xs)) part_at
