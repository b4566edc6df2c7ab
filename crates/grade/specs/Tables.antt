-- Tables of 256 numbers, row by row: how far apart two of the sixteen grades are.
use Rattle.std.specs.Prelude.{◌≡◌, ℕ, ◌+◌, ◌*◌, ◌<◌, ◌≤◌, List, slice_index}
use Rattle.tape.specs.Limits.{limit}

-- row i, column j
abbrev pub entry : List ℕ → ℕ → ℕ → ℕ
entry xs i j = slice_index xs (i * 16 + j)

-- The laws, of one entry each: it is at most the greatest distance, 0 on the diagonal, equal to its mirror
-- entry, and no longer than the way round through m.
abbrev pub Bounded : List ℕ → Type 0
Bounded xs = (i j : ℕ) → (i < 16) × (j < 16) → entry xs i j ≤ limit

abbrev pub Hollow : List ℕ → Type 0
Hollow xs = (i : ℕ) → i < 16 → entry xs i i ≡ 0

abbrev pub Mirrored : List ℕ → Type 0
Mirrored xs = (i j : ℕ) → (i < 16) × (j < 16) → entry xs i j ≡ entry xs j i

abbrev pub Direct : List ℕ → Type 0
Direct xs = (i j m : ℕ) → (i < 16) × (j < 16) × (m < 16) → entry xs i j ≤ entry xs i m + entry xs m j

abbrev pub Lawful : List ℕ → Type 0
Lawful xs = Bounded xs × Hollow xs × Mirrored xs × Direct xs
