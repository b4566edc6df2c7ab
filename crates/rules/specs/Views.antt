-- What a book and its shelf hold, as lists. The rules speak of this view: places past a list's end are not in it.
use Rattle.std.specs.Prelude.{ℕ, List, Option}
use Rattle.term.specs.declared.window.Stamp.{Stamp}
use Rattle.rules.specs.declared.place.Place.{Place}

-- k: how many centres a pick may have; f: the fineness; the fine limit: how many fine entries a radius keeps
pub record Settings : Type 0 where
  pub k : ℕ
  pub f : ℕ
  pub fine_limit : ℕ

-- A fine entry: the first piece, which attracts, and the latest that it took, which stands for those it took.
pub record Entry (P : Type 0) : Type 0 where
  pub first : Place P
  pub latest : Place P

-- One radius: its attractors, oldest first; the coarse representatives, each the latest piece that its attractor
-- took; the fine entries; and the lost mark, the latest piece of the fine entry evicted last.
pub record Row (P : Type 0) : Type 0 where
  pub radius : ℕ
  pub attractors : List (Place P)
  pub representatives : List (Place P)
  pub fine : List (Entry P)
  pub lost : Option Stamp

-- a book that is being set up
pub record Setup : Type 0 where
  pub settings : Settings
  pub radii : List ℕ

-- An open book with its shelf: a row for each radius, the posts made, the day, and how many places the shelf has.
pub record View (P : Type 0) : Type 0 where
  pub settings : Settings
  pub rows : List (Row P)
  pub posts : ℕ
  pub day : ℕ
  pub places : ℕ
