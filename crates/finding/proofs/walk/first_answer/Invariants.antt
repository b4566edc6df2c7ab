use Rattle.std.proofs.Common.{◌≡◌, ℕ, Bool, Option}
use Rattle.rules.specs.declared.place.Place.{Place}
use Rattle.finding.specs.Asked.{Tells}
use Rattle.finding.proofs.Seeking.{Seeking}
use Rattle.finding.proofs.walk.first_answer.Given as goal

-- no radius before j has an answer
abbrev pub invariant-loop-j : goal.invariant-loop-j
invariant-loop-j g l =
    (tell : Option (ℕ × Place g.row.P.Denot) → Option g.row.R.Denot) (test : ℕ × Place g.row.P.Denot → Bool)
    → (t : Tells tell test (λ start xs r. (list : _) × (list.now ≡ xs) × goal.F-post g l.ask start list r))
    → Seeking tell t.some t.none test l.radii.settings l.radii.rows.now l.radii.places.now l.j
