-- What is asked of a list of the shelf.
use Rattle.std.specs.Prelude.{◌≡◌, ℕ, Bool, List, None, Some, Option}
use Rattle.rules.specs.Calls.{lying}
use Rattle.rules.specs.Words.{first_of}
use Rattle.rules.specs.declared.place.Place.{Place}

-- The answers to a question of a list that begins at a place, which may be r: it tells something of the first piece that
-- passes a test, and has no answer only where none does.
pub record Tells {P R : Type 0} (tell : Option (ℕ × Place P) → Option R) (test : ℕ × Place P → Bool) (answers : ℕ → List (Place P) → Option R → Type 0) : Type 0 where
  pub none : tell None ≡ None
  pub some : (x : ℕ × Place P) → tell (Some x) ≡ None → ⊥
  pub first : (start : ℕ) (xs : List (Place P)) (r : Option R) → answers start xs r → r ≡ tell (first_of test (lying start xs))
