-- The worked cases, each named for what it shows.
use Rattle.std.specs.Prelude.{◌≡◌, ℕ, zero, suc, ◌+◌, ◌/◌, ◌%◌, min, true, false, cond, List, [], ◌∷◌, replicate, pos, ◌-ℤ◌, Some, None, Ok, Err, ◌==◌}
use Rattle.grade.specs.Tables.{entry}
use Rattle.refusal.specs.declared.Refusal.TheVariants.{RadiusNotAllowed, DayNotAllowed, NoRadiusPasses}
use Rattle.rules.specs.Calls.{why_not_radius, why_not_post}
use Rattle.rules.specs.Runs.{Opened, Reached}
use Rattle.rules.specs.declared.picked.Grain.TheVariants.{Fine, Coarse}
use Rattle.tape.specs.Joinery.{differing}
use Rattle.tape.specs.Limits.{limit}
use Rattle.tape.specs.declared.hull.Panel.{Panel}
use Rattle.term.specs.Formulas.{by_number, by_days}
use Rattle.worked.specs.Feeds.{hull, last_three, set_up, book, Picks, feed}

abbrev pub highest : Panel
highest = record { offsets = replicate 8 (pos 500000) }

abbrev pub lowest : Panel
lowest = record { offsets = replicate 8 (pos 0 -ℤ pos 500000) }

-- from n numbers before the end on, the table in which any two different grades are 1 apart
abbrev pub one_apart : ℕ → List ℕ
one_apart zero = []
one_apart (suc n) = cond (n / 16 == n % 16) 0 1 ∷ one_apart n

pub record Worked : Type 0 where
  pub three_fittings_differ : differing 0x0F 0x01 ≡ 3
  pub farthest_panels : hull highest lowest ≡ 1000000
  pub a_sum_stops_at_the_limit : min (hull highest lowest + entry (one_apart 256) 0 1) limit ≡ 1000000
  pub one_grade_apart : entry (one_apart 256) 0 1 ≡ 1
  pub fourth_back_is_out : (d day : ℕ) → by_number 3 1 d 4 day ≡ false
  pub third_back_counts : (d day : ℕ) → by_number 3 2 d 4 day ≡ true
  pub counts_on_its_day : (a posts : ℕ) → by_days 1 a 5 posts 5 ≡ true
  pub is_out_the_next_day : (a posts : ℕ) → by_days 1 a 5 posts 6 ≡ false
  pub two_panels : Picks 4 (0 ∷ 3 ∷ []) (Ok (record { count = 1; radius = 5; floor = Some 1; grain = Fine })) (1 ∷ 9 ∷ [])
  pub no_radius_for_the_third : Picks 4 (0 ∷ 3 ∷ 10 ∷ []) (Err NoRadiusPasses) (7 ∷ 9 ∷ [])
  pub the_first_is_forgotten : Picks 4 (0 ∷ 3 ∷ 10 ∷ 4 ∷ []) (Ok (record { count = 1; radius = 10; floor = Some 2; grain = Fine })) (4 ∷ 9 ∷ [])
  pub an_earlier_day_is_refused : why_not_post (book 4 (0 ∷ 3 ∷ 10 ∷ 4 ∷ [])) 0 ≡ Some DayNotAllowed
  pub one_entry_is_coarse : Picks 1 (0 ∷ 3 ∷ []) (Ok (record { count = 1; radius = 8; floor = Some 1; grain = Coarse })) (2 ∷ 9 ∷ [])
  pub and_fine_once_the_lost_is_out : Picks 1 (0 ∷ 3 ∷ 3 ∷ 3 ∷ []) (Ok (record { count = 1; radius = 0; floor = None; grain = Fine })) (4 ∷ 9 ∷ [])
  pub a_radius_may_double : why_not_radius (set_up 4) 8 ≡ None
  pub a_radius_must_grow : why_not_radius (set_up 4) 4 ≡ Some RadiusNotAllowed
  pub the_feed_is_a_run : Reached hull last_three feed (Opened (book 4 (0 ∷ 3 ∷ 10 ∷ 4 ∷ [])))
