-- The theorem over runs: every event keeps its promise, and no list passes its part.
use Rattle.std.proofs.Common.{◌≡◌, ℕ, List, refl, arith}
use Rattle.term.specs.Formulas.{Rule}
use Rattle.cover.specs.Distances.{Distance, Metric}
use Rattle.rules.proofs.Refusing.{pick-holds}
use Rattle.rules.proofs.Room.{fits, radius_served, post_served, turn_served, find_served, hand_served, pick_served}
use Rattle.rules.proofs.Keeping.{holds}
use Rattle.rules.specs.Calls.{why_not_post, posted as after-post}
use Rattle.rules.specs.Laws.{Lawful}
use Rattle.rules.specs.Views.{View}
use Rattle.rules.specs.Words.{leaves}
use Rattle.rules.specs.Promises.{story, Upheld, Fits, RunsHold}
use Rattle.rules.specs.Runs.{Event, Stage, Opened, Reached, begun, tried, opened, posted, turned, found, handed_out, picked}

upheld : {P : Type 0} (dist : Distance P) (metric : Metric dist) (counts : Rule)
    (law : Lawful counts) {es : List (Event P)} {stage : Stage P}
    → Reached dist counts es stage → Upheld dist counts es
upheld dist metric counts law (begun s judged rule) =
    (tt, (λ enough e. let z : ◌≡◌ {A = ℕ} 0 1 = cc in omega arith), tt)
upheld dist metric counts law (tried {es} {u} {u'} {r} g run rule) =
    (tt, (λ enough e. radius_served u g r rule.answer e), upheld dist metric counts law run)
upheld dist metric counts law (opened places run rule) =
    (tt, (λ enough e. let z : ◌≡◌ {A = ℕ} 0 1 = cc in omega arith), upheld dist metric counts law run)
upheld dist metric counts law (posted {es} {b} {b'} {r} p d run rule) = (
  tt,
  (λ enough e. post_served dist counts (story es) b (holds dist metric counts law run) enough d r
      rule.answer e),
  upheld dist metric counts law run,
)
upheld dist metric counts law (turned {es} {b} {b'} {r} d run rule) = (
  tt,
  (λ enough e. turn_served dist counts (story es) b (holds dist metric counts law run) enough d r
      rule.answer e),
  upheld dist metric counts law run,
)
upheld dist metric counts law (found {es} {b} {r} a run rule) = (
  tt,
  (λ enough e. find_served dist counts (story es) b
      (holds dist metric counts law run) enough a r rule e),
  upheld dist metric counts law run,
)
upheld dist metric counts law (handed_out {es} {b} {r} at run rule) = (
  tt,
  (λ enough e. hand_served dist counts (story es) b
      (holds dist metric counts law run) enough at r rule e),
  upheld dist metric counts law run,
)
upheld dist metric counts law (picked {es} {b} {r} {answers'} {work'} answers work run rule) =
    let k = holds dist metric counts law run in (
      pick-holds dist metric law (story es) b answers work answers' work' r k rule,
      (λ enough e. pick_served dist counts (story es) b k enough answers work r rule.answer e),
      upheld dist metric counts law run,
    )

pub runs_hold : (P : Type 0) → RunsHold P
runs_hold P dist metric counts law es stage run =
    (upheld dist metric counts law run, fits dist counts (story es) stage (holds dist metric counts law run))

-- what a post in a run leaves fits the shelf, so that no cap is needed
pub post_fits : {P : Type 0} (dist : Distance P) (metric : Metric dist) (counts : Rule)
    (law : Lawful counts) {es : List (Event P)} {b : View P} (p : P) (d : ℕ)
    → Reached dist counts es (Opened b) → Fits (Opened (leaves (why_not_post b d) b (after-post dist counts p d b)))
post_fits {P} dist metric counts law p d run =
    (runs_hold P dist metric counts law _ _ (posted p d run (record { answer = refl; left = refl }))).1
