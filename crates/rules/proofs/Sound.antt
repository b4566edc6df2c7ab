-- What is true of every radius after every call of a run: the invariant, over the posts h, at m posts and day n.
use Rattle.std.proofs.Common.{◌≡◌, ℕ, suc, ◌*◌, ◌<◌, ◌≤◌, true, ◌⊎◌, List, length, Some, None, Option}
use Rattle.std.specs.List.{AllByRecursion as Every}
use Rattle.cover.specs.Distances.{Distance}
use Rattle.term.specs.Formulas.{Rule}
use Rattle.term.specs.declared.window.Stamp.{Stamp}
use Rattle.rules.proofs.Orphans.{Split}
use Rattle.rules.proofs.Somes.{Pairwise}
use Rattle.rules.specs.Promises.{Arrived}
use Rattle.rules.specs.Steps.{step}
use Rattle.rules.specs.Views.{Settings, Entry, Row}
use Rattle.rules.specs.Words.{Any}
use Rattle.rules.specs.declared.place.Place.{Place}

-- the piece at x was posted as x says
abbrev pub Known : {P : Type 0} → List (P × ℕ) → Place P → Type 0
Known h x = Arrived x.arrival x.piece x.day h

-- and counts
abbrev pub Living : {P : Type 0} → Rule → List (P × ℕ) → ℕ → ℕ → Place P → Type 0
Living counts h m n x = Known h x × (counts x.arrival x.day m n ≡ true)

-- the piece posted as number t is within r of q
abbrev pub Through : {P : Type 0} → Distance P → List (P × ℕ) → ℕ → ℕ → P → Type 0
Through {P} dist h r t q = (v : P) × (d : ℕ) × Arrived t v d h × (dist v q ≤ r)

-- attractor v came before w, and they are farther apart than twice the radius
abbrev pub Ahead : {P : Type 0} → Distance P → ℕ → Place P → Place P → Type 0
Ahead dist g v w = (v.arrival < w.arrival) × (2 * g < dist v.piece w.piece)

-- a representative counts, and its attractor took it
abbrev pub Tied : {P : Type 0} → Distance P → Rule → ℕ → List (P × ℕ) → ℕ → ℕ → Place P → Type 0
Tied dist counts g h m n x = Living counts h m n x × Through dist h (2 * g) x.attractor x.piece

-- the representative x stands for q, posted as number a: it is no older, and one attractor took both
abbrev pub Serves : {P : Type 0} → Distance P → ℕ → List (P × ℕ) → P → ℕ → Place P → Type 0
Serves dist g h q a x = (a ≤ x.arrival) × Through dist h (2 * g) x.attractor q

-- arrival a matters: there are at most k attractors, or one is no newer
abbrev pub Relevant : {P : Type 0} → ℕ → List (Place P) → ℕ → Type 0
Relevant k att a = (length att ≤ k) ⊎ Any (λ v. v.arrival ≤ a) att

-- Attractors and representatives. The orphans as new as t are few.
pub record Coarse {P : Type 0} (dist : Distance P) (counts : Rule) (k g t : ℕ) (h : List (P × ℕ)) (m n : ℕ)
    (att rep : List (Place P)) : Type 0 where
  pub living : Every (Living counts h m n) att
  pub apart : Pairwise (Ahead dist g) att
  pub few : length att ≤ suc k
  pub tied : Every (Tied dist counts g h m n) rep
  pub split : Split k t att rep
  pub covered : (q : P) (a d : ℕ) → Arrived a q d h → counts a d m n ≡ true → Relevant k att a
      → Any (Serves dist g h q a) rep

-- a fine entry: its latest piece counts and is within s of the first
abbrev pub Close : {P : Type 0} → Distance P → Rule → ℕ → List (P × ℕ) → ℕ → ℕ → Entry P → Type 0
Close dist counts s h m n e = Living counts h m n e.latest × (dist e.first.piece e.latest.piece ≤ s)

-- the entry stands for q, posted as number a
abbrev pub Reaches : {P : Type 0} → Distance P → ℕ → P → ℕ → Entry P → Type 0
Reaches dist s q a e = (a ≤ e.latest.arrival) × (dist e.first.piece q ≤ s)

-- the lost mark was posted, and is no newer than any entry
abbrev pub Marked : {P : Type 0} → List (P × ℕ) → List (Entry P) → Option Stamp → Type 0
Marked h fine None = Unit {0}
Marked {P} h fine (Some mark) = ((p : P) × Arrived mark.arrival p mark.day h) × Every
    (λ e. mark.arrival ≤ e.latest.arrival) fine

-- arrival a is newer than the lost mark
abbrev pub Above : Option Stamp → ℕ → Type 0
Above None a = Unit {0}
Above (Some mark) a = mark.arrival < a

pub record Fine {P : Type 0} (dist : Distance P) (counts : Rule) (k limit s : ℕ) (h : List (P × ℕ)) (m n : ℕ)
    (att : List (Place P)) (fine : List (Entry P)) (lost : Option Stamp) : Type 0 where
  pub near : Every (Close dist counts s h m n) fine
  pub few : length fine ≤ limit
  pub marked : Marked h fine lost
  pub covered : (q : P) (a d : ℕ) → Arrived a q d h → counts a d m n ≡ true → Relevant k att a → Above lost a
      → Any (Reaches dist s q a) fine

pub record Sound {P : Type 0} (dist : Distance P) (counts : Rule) (set : Settings) (h : List (P × ℕ)) (m n : ℕ)
    (row : Row P) : Type 0 where
  pub coarse : Coarse dist counts set.k row.radius 0 h m n row.attractors row.representatives
  pub fine : Fine dist counts set.k set.fine_limit (step set.f row.radius) h m n row.attractors
      row.fine row.lost
