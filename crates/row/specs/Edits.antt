-- A row of the rules with one of its lists changed.
use Rattle.std.specs.Prelude.{ℕ, suc, Bool, true, cond, List, length, drop, Option, ◌==◌, nat_eq, nat_le}
use Rattle.rules.specs.Steps.{oldest, standing_for}
use Rattle.rules.specs.Words.{change_first}
use Rattle.term.specs.declared.window.Stamp.{Stamp}
use Rattle.rules.specs.Views.{Entry, Row}
use Rattle.rules.specs.declared.place.Place.{Place}

abbrev pub with_attractors : {P : Type 0} → List (Place P) → Row P → Row P
with_attractors xs row = record {
  radius = row.radius;
  attractors = xs;
  representatives = row.representatives;
  fine = row.fine;
  lost = row.lost;
}

abbrev pub with_representatives : {P : Type 0} → List (Place P) → Row P → Row P
with_representatives xs row = record {
  radius = row.radius;
  attractors = row.attractors;
  representatives = xs;
  fine = row.fine;
  lost = row.lost;
}

abbrev pub with_fine : {P : Type 0} → List (Entry P) → Option Stamp → Row P → Row P
with_fine es lost row = record {
  radius = row.radius;
  attractors = row.attractors;
  representatives = row.representatives;
  fine = es;
  lost = lost;
}

-- of k + 1 attractors, all but the oldest
abbrev pub less_oldest : {P : Type 0} → ℕ → List (Place P) → List (Place P)
less_oldest k xs = cond (length xs == suc k) (drop 1 xs) xs

-- the representative of the attractor that arrived as v becomes x
abbrev pub takes : {P : Type 0} → Place P → ℕ → Row P → Row P
takes x v row =
    with_representatives (change_first (λ y. nat_eq y.attractor v) (λ y. standing_for y.attractor x) row.representatives) row

-- whether a piece of an arrival still stands beside the attractors after a clean-up
abbrev pub stands_with : {P : Type 0} → ℕ → ℕ → List (Place P) → Bool
stands_with k a attractors = cond (length attractors == suc k) (nat_le (oldest attractors) a) true
