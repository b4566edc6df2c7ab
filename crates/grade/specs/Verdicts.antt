-- What the check of a table answers: which entry is named.
use Rattle.std.specs.Prelude.{◌≡◌, ℕ, ◌+◌, ◌*◌, ◌<◌, ◌≤◌, ◌⊎◌, List, length, Ok, Err, Result, MatchOption, ◌≢◌}
use Rattle.refusal.specs.declared.Breach.{Breach}
use Rattle.refusal.specs.declared.Refusal.{Refusal}
use Rattle.refusal.specs.declared.Refusal.TheVariants.{TableLength, LawBroken}
use Rattle.tape.specs.Limits.{limit}
use Rattle.grade.specs.Tables.{entry, Lawful}

-- what the first pass asks of entry (i, j)
abbrev pub EntryHolds : List ℕ → ℕ → ℕ → Type 0
EntryHolds xs i j = (entry xs i j ≤ limit) × (i ≡ j → entry xs i j ≡ 0) × (entry xs i j ≡ entry xs j i)

-- what the second pass asks of entry (i, j) and m
abbrev pub WayHolds : List ℕ → ℕ → ℕ → ℕ → Type 0
WayHolds xs i j m = entry xs i j ≤ entry xs i m + entry xs m j

-- each of the first n entries in row order holds
abbrev pub EntriesHold : List ℕ → ℕ → Type 0
EntriesHold xs n = (i j : ℕ) → (i < 16) × (j < 16) → i * 16 + j < n → EntryHolds xs i j

-- each of the first n of (i, j, m), in that order, holds
abbrev pub WaysHold : List ℕ → ℕ → Type 0
WaysHold xs n = (i j m : ℕ) → (i < 16) × (j < 16) × (m < 16) → i * 256 + j * 16 + m < n → WayHolds xs i j m

-- entry (i, j) is the first in row order that does not hold
abbrev pub FirstEntry : List ℕ → ℕ → ℕ → Type 0
FirstEntry xs i j = (i < 16) × (j < 16) × (EntryHolds xs i j → ⊥) × EntriesHold xs (i * 16 + j)

-- all entries hold, and (i, j, m) is the first way that does not
abbrev pub FirstWay : List ℕ → ℕ → ℕ → ℕ → Type 0
FirstWay xs i j m =
    (i < 16) × (j < 16) × (m < 16) × (WayHolds xs i j m → ⊥) × WaysHold xs (i * 256 + j * 16 + m)

-- the breach that is named
abbrev pub Named : List ℕ → Breach → Type 0
Named xs b =
    MatchOption b.through (FirstEntry xs b.row b.column) (λ m. EntriesHold xs 256 × FirstWay xs b.row b.column m)

-- The check of the numbers xs, with the table `old` at the call and `new` at the return.
abbrev pub Verdict : List ℕ → List ℕ → List ℕ → Result (Unit {0}) Refusal → Type 0
Verdict xs old new (Ok u) = (length xs ≡ 256) × Lawful xs × (new ≡ xs)
Verdict xs old new (Err e) =
    (new ≡ old)
    × (((length xs ≢ 256) × (e ≡ TableLength)) ⊎ ((length xs ≡ 256) × ((b : Breach) × (e ≡ LawBroken b) × Named xs b)))
