-- The commands that lines write.
use Rattle.std.specs.Prelude.{ℕ, zero, suc, cond, List, [], ◌∷◌, ◌++◌, length, ℤ, Some, None, Ok, Err, codes, Option, Result, ◌==◌, nat_lt}
use Rattle.std.specs.List.{before_first}
use Rattle.std.specs.Option.{ok_or}
use Rattle.fault.specs.Faults.{and_then}
use Rattle.command.specs.declared.Command.{Command}
use Rattle.command.specs.declared.Command.TheVariants as Made
use Rattle.command.specs.declared.verb.Verb.{Verb}
use Rattle.command.specs.declared.verb.Verb.TheVariants.{Settings, Radius, Open, Hull, Joinery, Day, Pick}
use Rattle.script.specs.declared.mistake.Mistake.{Mistake}
use Rattle.script.specs.declared.mistake.Mistake.TheVariants.{NoSuchCommand, Misspelt, NotANumber, TooMuch}
use Rattle.script.specs.Numerals.{numeral_of, whole_of, hexadecimal_of}
use Rattle.script.specs.Scan.{start_at, end_at, word_at, skip_at}

-- the next word read as an operand, and where it ends
abbrev pub operand_at : {X : Type 0} → (List ℕ → Option X) → List ℕ → ℕ → Result (X × ℕ) Mistake
operand_at reads xs at = and_then (ok_or (reads (word_at xs at)) NotANumber) (λ x. Ok (x, end_at xs at))

abbrev pub number_at : ℕ → List ℕ → ℕ → Result (ℕ × ℕ) Mistake
number_at most xs at = operand_at (numeral_of 10 most) xs at

abbrev pub word_operand_at : List ℕ → ℕ → Result (ℕ × ℕ) Mistake
word_operand_at xs at = operand_at hexadecimal_of xs at

abbrev pub offset_at : List ℕ → ℕ → Result (ℤ × ℕ) Mistake
offset_at xs at = operand_at whole_of xs at

-- n offsets, one after another
unfoldable pub offsets_at : ℕ → List ℕ → ℕ → Result (List ℤ × ℕ) Mistake
offsets_at zero xs at = Ok ([], at)
offsets_at (suc n) xs at = and_then (offsets_at n xs at) (λ p. and_then (offset_at xs p.1) (λ q. Ok (p.0 ++ q.0 ∷ [], q.1)))

-- a word that has to be there
abbrev pub expect_at : List ℕ → List ℕ → ℕ → Result ℕ Mistake
expect_at name xs at = ok_or (skip_at name xs at) Misspelt

-- a number after its name
abbrev pub named_at : List ℕ → ℕ → List ℕ → ℕ → Result (ℕ × ℕ) Mistake
named_at name most xs at = and_then (expect_at name xs at) (λ end. number_at most xs end)

-- what a word stands for, if it is the next one, and else what the rest says
abbrev pub or_else : {X : Type 0} → Option ℕ → X → Result (X × ℕ) Mistake → Result (X × ℕ) Mistake
or_else (Some end) x rest = Ok (x, end)
or_else None x rest = rest

abbrev pub kind_at : List ℕ → ℕ → Result (ℕ × ℕ) Mistake
kind_at xs at = or_else (skip_at (codes "hull") xs at) 0 (or_else (skip_at (codes "joinery") xs at) 1 (named_at (codes "kind") 255 xs at))

abbrev pub unit_at : List ℕ → ℕ → Result (ℕ × ℕ) Mistake
unit_at xs at = or_else (skip_at (codes "number") xs at) 0 (and_then (expect_at (codes "days") xs at) (λ end. Ok (1, end)))

-- a term's byte and its n
abbrev pub numbered : ℕ → Result (ℕ × ℕ) Mistake → Result (ℕ × ℕ × ℕ) Mistake
numbered term n = and_then n (λ p. Ok (term, p.0, p.1))

abbrev pub term_by : Option ℕ → List ℕ → ℕ → Result (ℕ × ℕ × ℕ) Mistake
term_by (Some by) xs at = and_then (unit_at xs by) (λ p. numbered p.0 (number_at 4294967295 xs p.1))
term_by None xs at =
    and_then (named_at (codes "term") 255 xs at) (λ p. and_then (expect_at (codes "n") xs p.1) (λ end. numbered p.0 (number_at 4294967295 xs end)))

abbrev pub term_at : List ℕ → ℕ → Result (ℕ × ℕ × ℕ) Mistake
term_at xs at = term_by (skip_at (codes "by") xs at) xs at

abbrev pub settings_at : List ℕ → ℕ → Result (Command × ℕ) Mistake
settings_at xs at =
    and_then (kind_at xs at) (λ kind. and_then (named_at (codes "k") 255 xs kind.1) (λ k.
    and_then (named_at (codes "f") 255 xs k.1) (λ f. and_then (named_at (codes "F") 255 xs f.1) (λ limit.
    and_then (term_at xs limit.1) (λ term. Ok (Made.Settings (record { kind = kind.0; k = k.0; f = f.0; limit = limit.0; term = term.0; n = term.1 }), term.2))))))

-- the verb that the next word names
abbrev pub verb_at : List ℕ → ℕ → Result (Verb × ℕ) Mistake
verb_at xs at =
    or_else (skip_at (codes "hull") xs at) Hull
    (or_else (skip_at (codes "joinery") xs at) Joinery
    (or_else (skip_at (codes "day") xs at) Day
    (or_else (skip_at (codes "pick") xs at) Pick
    (or_else (skip_at (codes "radius") xs at) Radius
    (or_else (skip_at (codes "open") xs at) Open
    (or_else (skip_at (codes "settings") xs at) Settings
    (Err NoSuchCommand)))))))

-- the operands of each verb
abbrev pub command_at : List ℕ → ℕ → Verb → Result (Command × ℕ) Mistake
command_at xs at Settings = settings_at xs at
command_at xs at Radius = and_then (number_at 4294967295 xs at) (λ p. Ok (Made.Radius p.0, p.1))
command_at xs at Open = Ok (Made.Open, at)
command_at xs at Hull = and_then (number_at 4294967295 xs at) (λ p. and_then (offsets_at 8 xs p.1) (λ q. Ok (Made.Hull p.0 q.0, q.1)))
command_at xs at Joinery = and_then (number_at 4294967295 xs at) (λ p. and_then (word_operand_at xs p.1) (λ q. Ok (Made.Joinery p.0 q.0, q.1)))
command_at xs at Day = and_then (number_at 4294967295 xs at) (λ p. Ok (Made.Day p.0, p.1))
command_at xs at Pick = Ok (Made.Pick, at)

-- the command that the next words write
abbrev pub written_at : List ℕ → ℕ → Result (Command × ℕ) Mistake
written_at xs at = and_then (verb_at xs at) (λ v. command_at xs v.1 v.0)

-- a line without its comment: nothing, or a command and nothing more
abbrev pub ended : List ℕ → Command × ℕ → Result (Option Command) Mistake
ended xs p = cond (nat_lt (start_at xs p.1) (length xs)) (Err TooMuch) (Ok (Some p.0))

abbrev pub code_of : List ℕ → Result (Option Command) Mistake
code_of xs =
    cond (start_at xs 0 == length xs) (Ok None)
    (and_then (verb_at xs 0) (λ v. and_then (command_at xs v.1 v.0) (ended xs)))

-- the command that a line writes: what stands before a comment
abbrev pub line_of : List ℕ → Result (Option Command) Mistake
line_of xs = code_of (before_first (λ b. b == 35) xs)
