-- From what the two passes found to the verdict.
use Rattle.std.proofs.Common.{◌≡◌, ℕ, false, List, length, Some, None, Decides, Option, sym, refl, ap, ◌∙◌, arith, MatchOption}
use Rattle.refusal.specs.declared.Breach.{Breach}
use Rattle.grade.specs.Tables.{entry, Lawful}
use Rattle.grade.specs.Verdicts.{EntriesHold, FirstEntry, FirstWay, Named, WaysHold}

lawful : (xs : List ℕ) → EntriesHold xs 256 → WaysHold xs 4096 → Lawful xs
lawful xs f g = (
  λ i j h. (f i j h (omega arith)).0,
  λ i h. (f i i (h, h) (omega arith)).1 refl,
  λ i j h. (f i j h (omega arith)).2,
  λ i j m h. g i j m h (omega arith),
)

entry_breaks : (xs : List ℕ) (i j : ℕ) → FirstEntry xs i j → Lawful xs → ⊥
entry_breaks xs i j f l =
    f.2 (l.0 i j (f.0, f.1), λ e. ap (entry xs i) (sym e) ∙ l.1 i f.0, l.2 i j (f.0, f.1))

way_breaks : (xs : List ℕ) (i j m : ℕ) → FirstWay xs i j m → Lawful xs → ⊥
way_breaks xs i j m f l = f.3 (l.3 i j m (f.0, f.1, f.2))

-- where a breach is named, the table is not lawful
breaks : (xs : List ℕ) (i j : ℕ) (o : Option ℕ)
    → MatchOption o (FirstEntry xs i j) (λ m. EntriesHold xs 256 × FirstWay xs i j m)
    → Lawful xs
    → ⊥
breaks xs i j None f l = entry_breaks xs i j f l
breaks xs i j (Some m) f l = way_breaks xs i j m f.1 l

pub never : (xs : List ℕ) (b : Breach) → Named xs b → Decides false ((length xs ≡ 256) × Lawful xs)
never xs b f = (
  λ e. let no : ⊥ = cc in absurd no,
  λ p. absurd (breaks xs b.row b.column b.through f p.1),
)

-- (the second pass names a third grade)
way : (xs : List ℕ) (i j : ℕ) (o : Option ℕ)
    → EntriesHold xs 256
    → MatchOption o ⊥ (λ m. FirstWay xs i j m)
    → MatchOption o (FirstEntry xs i j) (λ m. EntriesHold xs 256 × FirstWay xs i j m)
way xs i j None h f = absurd f
way xs i j (Some m) h f = (h, f)

-- from what the first pass answered and what both did
pub judged : (xs : List ℕ) (entries both : Option Breach)
    → MatchOption entries (EntriesHold xs 256) (λ b. (b.through ≡ None) × FirstEntry xs b.row b.column)
    → MatchOption entries
    (MatchOption both (WaysHold xs 4096) (λ b. MatchOption b.through ⊥ (λ m. FirstWay xs b.row b.column m)))
    (λ b. both ≡ Some b)
    → MatchOption both (Lawful xs) (Named xs)
judged xs None None f g = lawful xs f g
judged xs None (Some b) f g = way xs b.row b.column b.through f g
judged xs (Some b) both f e = rw (e, f.0) f.1
