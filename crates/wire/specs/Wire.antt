-- What writing and reading answer, by the bytes of a command.
use Rattle.std.specs.Prelude.{◌≡◌, ℕ, ◌+◌, ◌<◌, ◌≤◌, Bool, cond, ◌⊎◌, List, ◌++◌, length, take, drop, Ok, Err, Result, ◌≢◌, nat_le, slice_index}
use Rattle.refusal.specs.declared.Refusal.TheVariants.{UnknownByte, CutShort}
use Rattle.fault.specs.declared.Fault.{Fault}
use Rattle.fault.specs.Faults.{refused_at}
use Rattle.command.specs.declared.Command.{Command}
use Rattle.command.specs.declared.verb.Verb.{Verb}
use Rattle.command.specs.Verbs.{letter, width}
use Rattle.command.specs.Commands.{bytes_of, size_of, Carried}

-- a list is long enough for a command
abbrev pub room_for : Command → List ℕ → Bool
room_for c out = nat_le (size_of c) (length out)

-- an answer where there is room, and else the refusal of what was to stand at the front
abbrev pub if_room : {X : Type 0} → Bool → X → Result X Fault
if_room room x = cond room (Ok x) (Err (refused_at CutShort 0))

-- the list with the command's bytes at its front
abbrev pub with_front : Command → List ℕ → List ℕ
with_front c out = bytes_of c ++ drop (size_of c) out

-- the n bytes at an offset are those of the command
abbrev pub Stands : List ℕ → ℕ → Command → ℕ → Type 0
Stands xs at c n = (at + n ≤ length xs) × (take n (drop at xs) ≡ bytes_of c)

-- there is a byte, and no command begins with it
abbrev pub Unknown : List ℕ → ℕ → Type 0
Unknown xs at = (at < length xs) × ((v : Verb) → letter v ≢ slice_index xs at)

-- there is no byte, or the first of a command, and the list ends within it
abbrev pub Short : List ℕ → ℕ → Type 0
Short xs at =
    (length xs ≤ at)
    ⊎ ((v : Verb) × (at < length xs) × (letter v ≡ slice_index xs at) × (length xs < at + width v))

-- what reading at an offset answers: the command whose bytes stand there and how many they are, or which fault
abbrev pub Reads : List ℕ → ℕ → Result (Command × ℕ) Fault → Type 0
Reads xs at (Ok r) = Carried r.0 × (r.1 ≡ size_of r.0) × Stands xs at r.0 r.1
Reads xs at (Err fault) =
    ((fault ≡ refused_at UnknownByte at) × Unknown xs at) ⊎ ((fault ≡ refused_at CutShort at) × Short xs at)

-- whatever command stands there is the answer
abbrev pub Answers : List ℕ → ℕ → Result (Command × ℕ) Fault → Type 0
Answers xs at r = (c : Command) (n : ℕ) → Carried c → Stands xs at c n → r ≡ Ok (c, n)

-- the command read at an offset of xs is written at the front of `was`: the very bytes that stand there
abbrev pub Copied : List ℕ → ℕ → List ℕ → List ℕ → Result ℕ Fault → Type 0
Copied xs at was is (Ok n) = (at + n ≤ length xs) × (n ≤ length was) × (is ≡ take n (drop at xs) ++ drop n was)
Copied xs at was is (Err fault) =
    (is ≡ was)
    × (Reads xs at (Err fault)
    ⊎ ((fault ≡ refused_at CutShort 0) × ((c : Command) × Stands xs at c (size_of c) × (length was < size_of c))))
