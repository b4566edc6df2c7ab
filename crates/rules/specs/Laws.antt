-- The laws of a term, of its meaning: they are asked where a piece's arrival and day have been.
use Rattle.std.specs.Prelude.{◌≡◌, ℕ, ◌≤◌, true, false}
use Rattle.term.specs.Formulas.{Rule}

pub record Lawful (counts : Rule) : Type 0 where
  -- a piece counts when it is posted
  pub newest : (a d : ℕ) → counts a d a d ≡ true
  -- what does not count never counts later
  pub expired : (a d posts day posts2 day2 : ℕ) → a ≤ posts → d ≤ day → posts ≤ posts2 → day ≤ day2
      → counts a d posts day ≡ false → counts a d posts2 day2 ≡ false
  -- where one counts, each that is no older counts
  pub newer : (a d a2 d2 posts day : ℕ) → a ≤ a2 → d ≤ d2 → a2 ≤ posts → d2 ≤ day → counts a d posts day ≡ true
      → counts a2 d2 posts day ≡ true
