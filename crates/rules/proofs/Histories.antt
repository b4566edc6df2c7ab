-- What has been posted: arrivals and days, and what a term's laws say of two posted pieces.
use Rattle.std.proofs.Common.{◌≡◌, ℕ, ◌≤◌, true, List, [], ◌∷◌, length, sym, ◌∙◌, inl, inr, arith}
use Rattle.std.proofs.lemmas.Bool.{cases_Bool, both_ways}
use Rattle.term.specs.Formulas.{Rule}
use Rattle.rules.specs.Laws.{Lawful}
use Rattle.rules.specs.Promises.{Arrived, last, older}

-- the days fall as the posts grow older, from at most n on
abbrev pub Days : {P : Type 0} → ℕ → List (P × ℕ) → Type 0
Days n [] = Unit {0}
Days n (x ∷ h) = (x.1 ≤ n) × Days x.1 h

-- those posts have been made after m posts and on day n
abbrev pub Dated : {P : Type 0} → List (P × ℕ) → ℕ → ℕ → Type 0
Dated h m n = (length h ≤ m) × Days n h

pub days_later : {P : Type 0} (h : List (P × ℕ)) (n n2 : ℕ) → n ≤ n2 → Days n h → Days n2 h
days_later [] n n2 le d = tt
days_later (x ∷ h) n n2 le d = (omega (arith, d.0), d.1)

pub arrived_low : {P : Type 0} {a : ℕ} {p : P} {d : ℕ} {h : List (P × ℕ)} → Arrived a p d h → a ≤ length h
arrived_low (last e f g) = omega arith
arrived_low (older r) = omega (arith, arrived_low r)

pub arrived_day : {P : Type 0} {a : ℕ} {p : P} {d : ℕ} {h : List (P × ℕ)} (n : ℕ) → Days n h → Arrived a p d h → d ≤ n
arrived_day n days (last e f g) = omega (arith, days.0)
arrived_day n days (older {x} r) = omega (arith, days.0, arrived_day x.1 days.1 r)

-- a later arrival has no earlier day
pub arrived_order : {P : Type 0} {a : ℕ} {p : P} {d a2 : ℕ} {q : P} {d2 : ℕ} {h : List (P × ℕ)} (n : ℕ) → Days n h
    → Arrived a p d h → Arrived a2 q d2 h → a ≤ a2 → d ≤ d2
arrived_order n days (last e f g) (last e2 f2 g2) le = omega arith
arrived_order n days (last e f g) (older r2) le = absurd (omega (arith, arrived_low r2))
arrived_order n days (older {x} r) (last e2 f2 g2) le = omega (arith, arrived_day x.1 days.1 r)
arrived_order n days (older {x} r) (older r2) le = arrived_order x.1 days.1 r r2 le

-- one arrival is of one piece
pub arrived_same : {P : Type 0} {a : ℕ} {p : P} {d : ℕ} {q : P} {d2 : ℕ} {h : List (P × ℕ)} → Arrived a p d h
    → Arrived a q d2 h → p ≡ q
arrived_same (last e f g) (last e2 f2 g2) = sym f ∙ f2
arrived_same (last e f g) (older r2) = absurd (omega (arith, arrived_low r2))
arrived_same (older r) (last e2 f2 g2) = absurd (omega (arith, arrived_low r))
arrived_same (older r) (older r2) = arrived_same r r2

module _ {counts : Rule} (law : Lawful counts) where
  -- where a posted piece counts, each with no smaller arrival does
  pub still : {P : Type 0} {a : ℕ} {p : P} {d a2 : ℕ} {q : P} {d2 : ℕ} {h : List (P × ℕ)} (m n : ℕ) → Dated h m n
      → Arrived a p d h → Arrived a2 q d2 h → a ≤ a2 → counts a d m n ≡ true → counts a2 d2 m n ≡ true
  still {a = a} {d = d} {a2 = a2} {d2 = d2} m n dated r r2 le c =
      law.newer a d a2 d2 m n le (arrived_order n dated.1 r r2 le) (omega (arith, arrived_low r2, dated.0))
      (arrived_day n dated.1 r2) c

  -- what counts later counts now
  pub sooner : {P : Type 0} {a : ℕ} {p : P} {d : ℕ} {h : List (P × ℕ)} (m n m2 n2 : ℕ) → Dated h m n → m ≤ m2 → n ≤ n2
      → Arrived a p d h → counts a d m2 n2 ≡ true → counts a d m n ≡ true
  sooner {a = a} {d = d} m n m2 n2 dated le le2 r c =
      elim (cases_Bool (counts a d m n)) [
        | inl e ↦ e
        | inr e ↦
            absurd (both_ways (counts a d m2 n2)
            (law.expired a d m n m2 n2 (omega (arith, arrived_low r, dated.0))
            (arrived_day n dated.1 r) le le2 e) c)
      ]
