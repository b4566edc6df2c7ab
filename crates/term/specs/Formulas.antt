-- Whether a piece with arrival a and day d counts, after `posts` posts and on day `day`.
-- Differences stop at 0.
use Rattle.std.specs.Prelude.{Bool, ◌&&◌, ◌||◌, ℕ, ◌-◌, ltb}

-- a rule by which pieces count
abbrev pub Rule : Type 0
Rule = ℕ → ℕ → ℕ → ℕ → Bool

-- fewer than n posts came after it
abbrev pub by_number : ℕ → Rule
by_number n a d posts day = ltb (posts - a) n

-- fewer than n days went by since
abbrev pub by_days : ℕ → Rule
by_days n a d posts day = ltb (day - d) n

abbrev pub both : Rule → Rule → Rule
both f g a d posts day = f a d posts day && g a d posts day

abbrev pub either : Rule → Rule → Rule
either f g a d posts day = f a d posts day || g a d posts day
