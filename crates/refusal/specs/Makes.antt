-- What a function promises that makes a value or refuses to.
use Rattle.std.specs.Prelude.{◌≡◌, ℕ, ◌<◌, ◌≤◌, Ok, Err, Result}
use Rattle.refusal.specs.declared.Refusal.{Refusal}

-- It is made, as `is` says, exactly where `allowed` holds, and else refused as `why`.
abbrev pub MadeIf : {X : Type 0} → Type 0 → (X → Type 0) → Refusal → Result X Refusal → Type 0
MadeIf allowed is why (Ok x) = allowed × is x
MadeIf allowed is why (Err e) = (allowed → ⊥) × (e ≡ why)

-- the range of a term's length and of a cut tape's limit
abbrev pub OneToMillion : ℕ → Type 0
OneToMillion n = (0 < n) × (n ≤ 1000000)
