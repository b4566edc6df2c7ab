-- What laying a tape answers.
use Rattle.std.specs.Prelude.{◌≡◌, ℕ, Some, None, Ok, Option, Result}
use Rattle.tape.specs.Combined.{cut_off}
use Rattle.refusal.specs.Makes.{MadeIf, OneToMillion}
use Rattle.refusal.specs.declared.Refusal.{Refusal}
use Rattle.refusal.specs.declared.Refusal.TheVariants.{SettingOutOfRange}

-- the distance d, or the smaller of d and a limit from 1 to 1,000,000
abbrev pub Laid : ℕ → Option ℕ → Result ℕ Refusal → Type 0
Laid d None r = r ≡ Ok d
Laid d (Some limit) r = MadeIf (OneToMillion limit) (λ n. n ≡ cut_off limit d) SettingOutOfRange r
