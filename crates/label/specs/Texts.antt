-- The text of a label.
use Rattle.std.specs.Prelude.{ℕ, List, ◌++◌, take, Some, None, codes, decimal, Option}
use Rattle.std.specs.List.{flat_map}
use Rattle.rules.specs.declared.picked.Grain.{Grain}
use Rattle.rules.specs.declared.picked.Grain.TheVariants.{Fine, Coarse}
use Rattle.rules.specs.declared.picked.Picked.{Picked}
use Rattle.label.specs.declared.Label.{Label}

-- the floor, or a minus where there is none
abbrev pub floor_text : Option ℕ → List ℕ
floor_text None = codes "-"
floor_text (Some floor) = decimal floor

abbrev pub grain_text : Grain → List ℕ
grain_text Fine = codes "fine"
grain_text Coarse = codes "coarse"

abbrev pub picked_text : Picked → List ℕ
picked_text p =
    codes "pick " ++ decimal p.count ++ codes " radius " ++ decimal p.radius ++ codes " floor " ++ floor_text p.floor ++ codes " " ++ grain_text p.grain

-- each arrival after a space
abbrev pub arrival_text : ℕ → List ℕ
arrival_text a = codes " " ++ decimal a

abbrev pub arrivals_text : List ℕ → List ℕ
arrivals_text ns = flat_map arrival_text ns

abbrev pub label_text : Label → List ℕ
label_text l = picked_text l.picked ++ arrivals_text (take l.picked.count l.arrivals)
