-- How a pick chooses: the radius and the floor, the list that it uses, and the centres.
use Rattle.std.specs.Prelude.{ℕ, ◌+◌, ◌*◌, Bool, false, cond, ◌&&◌, ◌||◌, List, [], ◌∷◌, ◌++◌, map, length, Some, None, Ok, Err, Option, Result, nat_le}
use Rattle.cover.specs.Choices.{farthest_first, reach}
use Rattle.cover.specs.Distances.{Distance}
use Rattle.refusal.specs.declared.Refusal.{Refusal}
use Rattle.refusal.specs.declared.Refusal.TheVariants.{NothingCounts, NoRadiusPasses}
use Rattle.term.specs.Formulas.{Rule}
use Rattle.term.specs.declared.window.Stamp.{Stamp}
use Rattle.rules.specs.Steps.{within, step}
use Rattle.rules.specs.Views.{Settings, Row, View}
use Rattle.rules.specs.declared.picked.Grain.{Grain}
use Rattle.rules.specs.declared.picked.Grain.TheVariants.{Fine, Coarse}
use Rattle.rules.specs.declared.picked.Picked.{Picked}
use Rattle.rules.specs.declared.place.Place.{Place}

-- one of the chosen is within r of x
abbrev pub any_within : {P : Type 0} → Distance P → ℕ → List (Place P) → Place P → Bool
any_within dist r [] x = false
any_within dist r (c ∷ cs) x = within dist r c x || any_within dist r cs x

-- Going through a list in order, each that is farther than r from all chosen is chosen too.
abbrev pub choose : {P : Type 0} → Distance P → ℕ → List (Place P) → List (Place P) → List (Place P)
choose dist r chosen [] = chosen
choose dist r chosen (x ∷ xs) = choose dist r (cond (any_within dist r chosen x) chosen (chosen ++ (x ∷ []))) xs

-- A radius passes if it has at most k attractors and the trial over its representatives chooses at most k.
abbrev pub passes : {P : Type 0} → Distance P → ℕ → Row P → Bool
passes dist k row =
    nat_le (length row.attractors) k && nat_le (length (choose dist (2 * row.radius) [] row.representatives)) k

-- the radius that a pick takes, and the one before it
pub record Taken (P : Type 0) : Type 0 where
  pub row : Row P
  pub floor : Option ℕ

-- The first radius that passes, with the one before it as the floor; the floor is absent when the first passes.
abbrev pub taken_after : {P : Type 0} → Distance P → ℕ → Option ℕ → List (Row P) → Option (Taken P)
taken_after dist k floor [] = None
taken_after dist k floor (row ∷ rows) =
    cond (passes dist k row) (Some (record { row = row; floor = floor })) (taken_after dist k (Some row.radius) rows)

abbrev pub taken : {P : Type 0} → Distance P → View P → Option (Taken P)
taken dist b = taken_after dist b.settings.k None b.rows

-- A pick is fine if there is no lost mark or the marked piece no longer counts.
abbrev pub grain_by : Rule → ℕ → ℕ → Option Stamp → Grain
grain_by counts posts day None = Fine
grain_by counts posts day (Some m) = cond (counts m.arrival m.day posts day) Coarse Fine

-- the list that a pick uses
abbrev pub used : {P : Type 0} → Grain → Row P → List (Place P)
used Fine row = map (λ e. e.latest) row.fine
used Coarse row = row.representatives

-- how far a piece can be from the one that stands for it in that list
abbrev pub slack : {P : Type 0} → Grain → ℕ → Row P → ℕ
slack Fine f row = 2 * step f row.radius
slack Coarse f row = 4 * row.radius

-- the distance between the pieces of two places
abbrev pub apart : {P : Type 0} → Distance P → Distance (Place P)
apart dist x y = dist x.piece y.piece

-- a pick: the places of its centres, and what it answers
pub record Pick (P : Type 0) : Type 0 where
  pub centres : List (Place P)
  pub told : Picked

-- The centres from a list, farthest-first: the radius is their reach over the list and the slack. There is nothing
-- to pick from an empty list.
abbrev pub pick_among : {P : Type 0} → Distance P → Settings → Taken P → Grain → List (Place P) → Result (Pick P) Refusal
pick_among dist s t grain [] = Err NothingCounts
pick_among dist s t grain (x ∷ xs) =
    let centres = farthest_first (apart dist) s.k (x ∷ xs) in
    Ok (record {
      centres = centres;
      told = record {
        count = length centres;
        radius = reach (apart dist) centres (x ∷ xs) + slack grain s.f t.row;
        floor = t.floor;
        grain = grain;
      };
    })

abbrev pub pick_from : {P : Type 0} → Distance P → Rule → View P → Option (Taken P) → Result (Pick P) Refusal
pick_from dist counts b None = Err NoRadiusPasses
pick_from dist counts b (Some t) =
    let grain = grain_by counts b.posts b.day t.row.lost in
    pick_among dist b.settings t grain (used grain t.row)
