-- The bytes of each command: its verb's, and then the operands, each of a fixed width.
use Rattle.std.specs.Prelude.{◌≡◌, ℕ, ◌^◌, ◌<◌, List, [], ◌∷◌, ◌++◌, length, pos, FitsSigned, slice_index_or}
use Rattle.std.specs.Int.{w32}
use Rattle.command.specs.declared.Command.{Command}
use Rattle.command.specs.declared.Command.TheVariants.{Settings, Radius, Open, Hull, Joinery, Day, Pick}
use Rattle.command.specs.declared.verb.Verb.{Verb}
use Rattle.command.specs.declared.verb.Verb.TheVariants as Verbal
use Rattle.command.specs.Verbs.{letter, width}
use Rattle.command.specs.Bytes.{be32, be64, be32zs}

abbrev pub verb_of : Command → Verb
verb_of (Settings s) = Verbal.Settings
verb_of (Radius radius) = Verbal.Radius
verb_of Open = Verbal.Open
verb_of (Hull day offsets) = Verbal.Hull
verb_of (Joinery day word) = Verbal.Joinery
verb_of (Day day) = Verbal.Day
verb_of Pick = Verbal.Pick

abbrev pub operands_of : Command → List ℕ
operands_of (Settings s) = s.kind ∷ s.k ∷ s.f ∷ s.limit ∷ s.term ∷ be32 s.n
operands_of (Radius radius) = be32 radius
operands_of Open = []
operands_of (Hull day offsets) = be32 day ++ be32zs offsets
operands_of (Joinery day word) = be32 day ++ be64 word
operands_of (Day day) = be32 day
operands_of Pick = []

abbrev pub bytes_of : Command → List ℕ
bytes_of c = letter (verb_of c) ∷ operands_of c

-- how many they are
abbrev pub size_of : Command → ℕ
size_of c = width (verb_of c)

-- each operand fits its width: these are the commands
abbrev pub Carried : Command → Type 0
Carried (Settings s) = (s.kind < 2 ^ 8) × (s.k < 2 ^ 8) × (s.f < 2 ^ 8) × (s.limit < 2 ^ 8) × (s.term < 2 ^ 8) × (s.n < 2 ^ 32)
Carried (Radius radius) = radius < 2 ^ 32
Carried Open = Unit {0}
Carried (Hull day offsets) = (day < 2 ^ 32) × (length offsets ≡ 8) × ((i : ℕ) → i < 8 → FitsSigned w32 (slice_index_or offsets i (pos 0)))
Carried (Joinery day word) = (day < 2 ^ 32) × (word < 2 ^ 64)
Carried (Day day) = day < 2 ^ 32
Carried Pick = Unit {0}
