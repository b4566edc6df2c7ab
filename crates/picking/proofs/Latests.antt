-- The latest pieces of fine entries.
use Rattle.std.proofs.Common.{◌≡◌, List, [], ◌∷◌, map, length, refl, ap, arith}
use Rattle.row.specs.Seen.{entries}
use Rattle.rules.specs.declared.place.Place.{Place}

pub latests : {P : Type 0} (xs ys : List (Place P)) → length xs ≡ length ys → map (λ e. e.latest) (entries xs ys) ≡ ys
latests [] [] h = refl
latests [] (y ∷ ys) h = let z : ⊥ = omega arith in absurd z
latests (x ∷ xs) [] h = let z : ⊥ = omega arith in absurd z
latests (x ∷ xs) (y ∷ ys) h = ap (λ zs. y ∷ zs) (latests xs ys (omega arith))
