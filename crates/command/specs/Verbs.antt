-- What the first byte of a command tells.
use Rattle.std.specs.Prelude.{◌≡◌, ◌≢◌, ℕ, Result, MatchResult}
use Rattle.command.specs.declared.verb.Verb.{Verb}
use Rattle.refusal.specs.declared.Refusal.{Refusal}
use Rattle.refusal.specs.declared.Refusal.TheVariants.{UnknownByte}
use Rattle.command.specs.declared.verb.Verb.TheVariants.{Settings, Radius, Open, Hull, Joinery, Day, Pick}

-- the byte
abbrev pub letter : Verb → ℕ
letter Settings = 0x53
letter Radius = 0x52
letter Open = 0x4F
letter Hull = 0x48
letter Joinery = 0x4A
letter Day = 0x44
letter Pick = 0x50

-- how many bytes the command has, this one among them
abbrev pub width : Verb → ℕ
width Settings = 10
width Radius = 5
width Open = 1
width Hull = 37
width Joinery = 13
width Day = 5
width Pick = 1

-- the verb with this byte, or the refusal where no verb has it
abbrev pub Begins : ℕ → Result Verb Refusal → Type 0
Begins byte r = MatchResult r (λ v. letter v ≡ byte) (λ why. (why ≡ UnknownByte) × ((v : Verb) → letter v ≢ byte))
