use Rattle.std.proofs.Common.{[], ◌∷◌, refl, arith}
use lib.Count.{ones}
use Rattle.rules.specs.Calls.{beginning}
use Rattle.rules.specs.Runs.{begun, tried, opened, posted, picked}
use Rattle.tape.specs.Hull.{widest}
use Rattle.worked.specs.Feeds.{panel, one_centre, entered, set_up, book}
use Rattle.worked.proofs.worked_cases.Goals as goal

pub returns : goal.returns
unfolding widest ones
returns c = record {
  three_fittings_differ = refl;
  farthest_panels = refl;
  a_sum_stops_at_the_limit = refl;
  one_grade_apart = refl;
  fourth_back_is_out = λ d day. refl;
  third_back_counts = λ d day. refl;
  counts_on_its_day = λ a posts. refl;
  is_out_the_next_day = λ a posts. refl;
  two_panels = record { answer = refl; written = refl; spared = tt };
  no_radius_for_the_third = record { answer = refl; written = refl; spared = refl };
  the_first_is_forgotten = record { answer = refl; written = refl; spared = tt };
  an_earlier_day_is_refused = refl;
  one_entry_is_coarse = record { answer = refl; written = refl; spared = tt };
  and_fine_once_the_lost_is_out = record { answer = refl; written = refl; spared = tt };
  a_radius_may_double = refl;
  a_radius_must_grow = refl;
  the_feed_is_a_run =
      posted (panel 4) 0
      (picked {work' = 0 ∷ 0 ∷ 0 ∷ 0 ∷ []} (7 ∷ 9 ∷ []) (0 ∷ 0 ∷ 0 ∷ 0 ∷ [])
      (posted (panel 4) 1
      (picked {work' = 0 ∷ 0 ∷ 0 ∷ 0 ∷ []} (7 ∷ 9 ∷ []) (0 ∷ 0 ∷ 0 ∷ 0 ∷ [])
      (posted (panel 10) 1
      (picked {work' = 0 ∷ 0 ∷ 0 ∷ 0 ∷ []} (7 ∷ 9 ∷ []) (0 ∷ 0 ∷ 0 ∷ 0 ∷ [])
      (posted {b' = book 4 (0 ∷ 3 ∷ [])} (panel 3) 1
      (posted {b' = book 4 (0 ∷ [])} (panel 0) 1
      (opened 56
      (tried {u' = set_up 4} 4 (tried {u' = entered (1 ∷ 2 ∷ []) (beginning (one_centre 4))} 2 (tried {u' = entered (1 ∷ []) (beginning (one_centre 4))} 1 (begun (one_centre 4) (omega arith) refl) (record { answer = refl; left = refl })) (record { answer = refl; left = refl })) (record { answer = refl; left = refl }))
      refl)
      (record { answer = refl; left = refl }))
      (record { answer = refl; left = refl }))
      (record { answer = refl; written = refl; spared = tt }))
      (record { answer = refl; left = refl }))
      (record { answer = refl; written = refl; spared = refl }))
      (record { answer = refl; left = refl }))
      (record { answer = refl; written = refl; spared = tt }))
      (record { answer = refl; left = refl });
}
