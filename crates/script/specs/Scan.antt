-- Lines, and the words of a line.
use Rattle.std.specs.Prelude.{◌≡◌, ℕ, ◌+◌, ◌-◌, Bool, cond, ◌||◌, List, length, take, drop, Some, None, Option, ◌==◌}
use Rattle.std.specs.List.{before_first, prefix_len, position_or_len}
use Rattle.std.specs.Str.{bytes_eq}

-- the first line of a text, which stands before a line feed or the text's end, and what is left behind the line feed
pub record FirstLine (text line rest : List ℕ) : Type 0 where
  pub first : line ≡ before_first (λ b. b == 10) text
  pub behind : rest ≡ drop (length line + 1) text

-- space, tab, carriage return
abbrev pub blank : ℕ → Bool
blank b = b == 32 || b == 9 || b == 13

-- the next word at an offset: where it begins, where it ends, and the word
unfoldable pub start_at : List ℕ → ℕ → ℕ
start_at xs at = at + prefix_len blank (drop at xs)

unfoldable pub end_at : List ℕ → ℕ → ℕ
end_at xs at = start_at xs at + position_or_len blank (drop (start_at xs at) xs)

abbrev pub word_at : List ℕ → ℕ → List ℕ
word_at xs at = take (end_at xs at - start_at xs at) (drop (start_at xs at) xs)

-- where the next word ends, if it is the one that is named
abbrev pub skip_at : List ℕ → List ℕ → ℕ → Option ℕ
skip_at name xs at = cond (bytes_eq (word_at xs at) name) (Some (end_at xs at)) None
