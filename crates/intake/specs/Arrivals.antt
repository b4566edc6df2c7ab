-- What stands at the front of the bytes of a feed that have come.
use Rattle.std.specs.Prelude.{◌≡◌, Bool, true, false, List, ◌⊎◌, ℕ, ◌<◌, length, Ok, Err, Result}
use Rattle.command.specs.Commands.{Carried}
use Rattle.fault.specs.declared.Fault.{Fault}
use Rattle.fault.specs.Faults.{refused_at}
use Rattle.refusal.specs.declared.Refusal.TheVariants.{CutShort, UnknownByte}
use Rattle.wire.specs.Wire.{Short, Stands, Unknown}
use Rattle.intake.specs.declared.Arrived.{Arrived}
use Rattle.intake.specs.declared.Arrived.TheVariants.{Command, Part, End}

-- A command stands there with all its bytes; or they are too few, and more may come; or there are none, and none will
-- come; or no command begins so, or the last one is cut short, which is a fault at the offset of the first byte.
abbrev pub Arrives : List ℕ → ℕ → Bool → Result Arrived Fault → Type 0
Arrives xs at ended (Ok (Command c n)) = Carried c × (0 < n) × Stands xs 0 c n
Arrives xs at ended (Ok Part) = (ended ≡ false) × Short xs 0
Arrives xs at ended (Ok End) = (ended ≡ true) × (length xs ≡ 0)
Arrives xs at ended (Err f) =
    ((f ≡ refused_at UnknownByte at) × Unknown xs 0)
    ⊎ ((f ≡ refused_at CutShort at) × (ended ≡ true) × (0 < length xs) × Short xs 0)
