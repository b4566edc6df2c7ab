-- Every step of a run keeps the invariant.
use Rattle.std.proofs.Common.{◌≡◌, ℕ, ◌≤◌, false, ltb, List, [], ◌∷◌, map, length, Some, None, Ok, Err, Option, Result, sym, refl, ◌∙◌, subst, arith}
use Rattle.std.proofs.ByRecursion.{All-weaker, All-map}
use Rattle.std.proofs.lemmas.List.{length-map}
use Rattle.std.proofs.lemmas.Bool.{ltb-false, or_parts}
use Rattle.refusal.specs.declared.Refusal.{Refusal}
use Rattle.term.specs.Formulas.{Rule}
use Rattle.cover.specs.Distances.{Distance, Metric}
use Rattle.rules.proofs.Attracting.{grown}
use Rattle.rules.proofs.Entering.{posted-radius, row-posted}
use Rattle.rules.proofs.Expiring.{expired}
use Rattle.rules.proofs.Histories.{Days, days_later}
use Rattle.rules.proofs.Reasons.{no_reason}
use Rattle.rules.proofs.Sound.{Sound}
use Rattle.rules.proofs.Trials.{Growing}
use Rattle.rules.specs.Calls.{post_tests, why_not_post, arriving, posted, PostRule, turn_tests, why_not_turn, turned, TurnRule}
use Rattle.rules.specs.Laws.{Lawful}
use Rattle.rules.specs.Limits.{bad_day, last_day}
use Rattle.rules.specs.Promises.{Story, next, story}
use Rattle.rules.specs.Runs.{Event, Post, Turn, Stage, Reached, begun, tried, opened, posted as then-posted, turned as then-turned, found, handed_out, picked}
use Rattle.rules.specs.Steps.{expire, post_row}
use Rattle.rules.specs.Views.{Row, View}
use Rattle.rules.specs.Words.{after, leaves}
use Rattle.rules.proofs.Stages.{radii_of, view_of, Running, Holds, radius_kept, open_kept}

radii_kept : {P : Type 0} (f : Row P → Row P) → ((r : Row P) → (f r).radius ≡ r.radius) → (rows : List (Row P))
    → radii_of (map f rows) ≡ radii_of rows
radii_kept f same [] = refl
radii_kept f same (r ∷ rs) = λ i. same r i ∷ radii_kept f same rs i

-- a day that is not bad is no earlier
day_later : (today d : ℕ) → bad_day today d ≡ false → today ≤ d
day_later today d e = ltb-false d today (or_parts (ltb d today) (ltb last_day d) e).0

-- the story with other posts and another day
abbrev at : {P : Type 0} → Story P → List (P × ℕ) → ℕ → Story P
at t h d = record { settings = t.settings; radii = t.radii; places = t.places; posts = h; day = d }

module _ {P : Type 0} (dist : Distance P) (counts : Rule) (t : Story P) where
  -- a step of every row that keeps the radius and the invariant
  stepped : (b : View P) (k : Running dist counts t b) (h : List (P × ℕ)) (d : ℕ) (f : Row P → Row P)
      → ((r : Row P) → (f r).radius ≡ r.radius) → Days d h
      → ((r : Row P) → Sound dist counts t.settings t.posts (length t.posts) t.day r
      → Sound dist counts t.settings h (length h) d (f r))
      → Running dist counts (at t h d) (view_of (at t h d) (map f k.rows))
  stepped b k h d f kept days step =
      let same = radii_kept f kept k.rows in
      record {
        rows = map f k.rows;
        same = refl;
        judged = k.judged;
        radii = same ∙ k.radii;
        growing = subst (Growing None) (sym same) k.growing;
        some = omega (arith, k.some, length-map k.rows f);
        days = days;
        sound =
            All-map (Sound dist counts t.settings h (length h) d) f k.rows
            (All-weaker (Sound dist counts t.settings t.posts (length t.posts) t.day)
            (λ r. Sound dist counts t.settings h (length h) d (f r)) step k.rows k.sound);
      }

  -- a call that is refused, and leaves the view v, or is performed, and leaves the view new
  called : (event : Result (Unit {0}) Refusal → Event P) (v new b2 : View P) (r : Result (Unit {0}) Refusal)
      (o : Option Refusal) → r ≡ after o (Ok tt) → b2 ≡ leaves o v new
      → ((e : Refusal) → Running dist counts (next (event (Err e)) t) v)
      → (o ≡ None → Running dist counts (next (event (Ok tt)) t) new)
      → Running dist counts (next (event r) t) b2
  called event v new b2 r o answer left refused performed =
      subst (Running dist counts (next (event r) t)) (sym left)
      (subst (λ s. Running dist counts (next (event s) t) (leaves o v new)) (sym answer) (go o refl))
    where
      go : (w : Option Refusal) → o ≡ w → Running dist counts (next (event (after w (Ok tt))) t) (leaves w v new)
      go None e = performed e
      go (Some d) e = refused d

module _ {P : Type 0} (dist : Distance P) (metric : Metric dist) {counts : Rule} (law : Lawful counts)
    (t : Story P) (b : View P) (k : Running dist counts t b) where
  post_kept : (p : P) (d : ℕ) (b2 : View P) (r : Result (Unit {0}) Refusal) → PostRule dist counts b p d r b2
      → Running dist counts (next (Post p d r) t) b2
  post_kept p d b2 r rule =
      let v = view_of t k.rows in
      let x = arriving v p d in
      let here : PostRule dist counts v p d r b2 = subst (λ w. PostRule dist counts w p d r b2) k.same rule in
      called dist counts t (Post p d) v (posted dist counts p d v) b2 r (why_not_post v d) here.answer here.left
      (λ e. subst (Running dist counts t) k.same k)
      (λ none.
      let le : t.day ≤ d = day_later t.day d (no_reason (post_tests v d) none).1.1.0 in
      let days = days_later t.posts t.day d le k.days in
      stepped dist counts t b k (grown t.posts x) d (post_row dist counts t.settings x)
      (posted-radius dist counts t.settings x) (omega arith, days)
      (row-posted dist metric law t.settings k.judged.4 t.posts x refl (length t.posts) t.day
      (omega arith, k.days) (omega arith, days) (omega arith) le))

  turn_kept : (d : ℕ) (b2 : View P) (r : Result (Unit {0}) Refusal) → TurnRule counts b d r b2
      → Running dist counts (next (Turn d r) t) b2
  turn_kept d b2 r rule =
      let v = view_of t k.rows in
      let here : TurnRule counts v d r b2 = subst (λ w. TurnRule counts w d r b2) k.same rule in
      called dist counts t (Turn d) v (turned counts d v) b2 r (why_not_turn v d) here.answer here.left
      (λ e. subst (Running dist counts t) k.same k)
      (λ none.
      let le : t.day ≤ d = day_later t.day d (no_reason (turn_tests v d) none).1.0 in
      let days = days_later t.posts t.day d le k.days in
      stepped dist counts t b k t.posts d (expire counts (length t.posts) d) (λ r. refl) days
      (expired dist law t.posts (length t.posts) t.day (length t.posts) d (omega arith, k.days)
      (omega arith, days) (omega arith) le t.settings))

-- every run keeps the invariant
pub holds : {P : Type 0} (dist : Distance P) (metric : Metric dist) (counts : Rule) (law : Lawful counts)
    {es : List (Event P)} {stage : Stage P} → Reached dist counts es stage → Holds dist counts (story es) stage
holds dist metric counts law (begun s judged rule) =
    record { same = rule; judged = judged; growing = (refl, tt); some = omega arith; posts = refl; day = refl }
holds dist metric counts law (tried {es} {u} {u'} {r} g run rule) =
    radius_kept (story es) g u u' r (holds dist metric counts law run) rule
holds dist metric counts law (opened {es} {u} {b} places run rule) =
    open_kept dist counts (story es) u b places (holds dist metric counts law run) rule
holds dist metric counts law (then-posted {es} {b} {b'} {r} p d run rule) =
    post_kept dist metric law (story es) b (holds dist metric counts law run) p d b' r rule
holds dist metric counts law (then-turned {es} {b} {b'} {r} d run rule) =
    turn_kept dist metric law (story es) b (holds dist metric counts law run) d b' r rule
holds dist metric counts law (found a run rule) = holds dist metric counts law run
holds dist metric counts law (handed_out at run rule) = holds dist metric counts law run
holds dist metric counts law (picked answers work run rule) = holds dist metric counts law run
