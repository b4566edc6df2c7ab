-- What is promised of every run, from what happened alone: nothing here speaks of the steps that a book takes.
use Rattle.std.specs.Prelude.{◌≡◌, ℕ, suc, ◌+◌, ◌*◌, ◌<◌, ◌≤◌, true, cond, ◌⊎◌, List, [], ◌∷◌, ◌++◌, length, take, Some, None, Ok, Err, Option, Result, ◌≢◌}
use Rattle.std.specs.List.{AllByRecursion as Every}
use Rattle.cover.specs.Choices.{Choice, reach}
use Rattle.cover.specs.Distances.{Distance, Metric, Covers}
use Rattle.refusal.specs.declared.Refusal.{Refusal}
use Rattle.refusal.specs.declared.Refusal.TheVariants.{ShelfTooShort, ListTooShort, NothingCounts, NoRadiusPasses}
use Rattle.term.specs.Formulas.{Rule}
use Rattle.rules.specs.Laws.{Lawful}
use Rattle.rules.specs.Limits.{attractor_room, representative_room, needed}
use Rattle.rules.specs.Runs.{Event, Begin, Radius, Open, Post, Turn, Find, HandOut, Pick, Stage, SettingUp, Opened, Reached}
use Rattle.rules.specs.Views.{Settings, Row}
use Rattle.rules.specs.Words.{last_of}
use Rattle.rules.specs.declared.picked.Grain.{Grain}
use Rattle.rules.specs.declared.picked.Grain.TheVariants.{Fine, Coarse}
use Rattle.rules.specs.declared.picked.Picked.{Picked}

-- What the events of a run come to: the settings, the radii accepted, the places of the shelf, the posts performed as
-- pieces with their days, newest first, and the day of the last post or turn performed, else 0.
pub record Story (P : Type 0) : Type 0 where
  pub settings : Settings
  pub radii : List ℕ
  pub places : ℕ
  pub posts : List (P × ℕ)
  pub day : ℕ

-- the story with one event more
abbrev pub next : {P : Type 0} → Event P → Story P → Story P
next (Begin s) t = record { settings = s; radii = 0 ∷ []; places = 0; posts = []; day = 0 }
next (Radius g (Ok u)) t =
    record { settings = t.settings; radii = t.radii ++ (g ∷ []); places = t.places; posts = t.posts; day = t.day }
next (Radius g (Err e)) t = t
next (Open places) t =
    record { settings = t.settings; radii = t.radii; places = places; posts = t.posts; day = t.day }
next (Post p d (Ok u)) t =
    record { settings = t.settings; radii = t.radii; places = t.places; posts = (p, d) ∷ t.posts; day = d }
next (Post p d (Err e)) t = t
next (Turn d (Ok u)) t =
    record { settings = t.settings; radii = t.radii; places = t.places; posts = t.posts; day = d }
next (Turn d (Err e)) t = t
next (Find a r) t = t
next (HandOut at r) t = t
next (Pick answers work r answers') t = t

abbrev pub story : {P : Type 0} → List (Event P) → Story P
story [] = record { settings = record { k = 0; f = 0; fine_limit = 0 }; radii = []; places = 0; posts = []; day = 0 }
story (e ∷ es) = next e (story es)

-- The piece p was posted on day d as number a of the posts.
pub data Arrived {P : Type 0} (a : ℕ) (p : P) (d : ℕ) : List (P × ℕ) → Type 0 where
  last : {x : P × ℕ} {h : List (P × ℕ)} → a ≡ suc (length h) → x.0 ≡ p → x.1 ≡ d → Arrived a p d (x ∷ h)
  older : {x : P × ℕ} {h : List (P × ℕ)} → Arrived a p d h → Arrived a p d (x ∷ h)

-- of those posts, newest first, the pieces that count after m posts and on day n
abbrev pub counting : {P : Type 0} → Rule → ℕ → ℕ → List (P × ℕ) → List P
counting counts m n [] = []
counting counts m n (x ∷ h) =
    cond (counts (suc (length h)) x.1 m n) (x.0 ∷ counting counts m n h) (counting counts m n h)

-- The window: the posted pieces that count now.
abbrev pub window : {P : Type 0} → Rule → Story P → List P
window counts t = counting counts (length t.posts) t.day t.posts

-- arrival a is that of a post that counts, of the piece p
abbrev pub Counting : {P : Type 0} → Rule → Story P → ℕ → P → Type 0
Counting counts t a p = (d : ℕ) × Arrived a p d t.posts × (counts a d (length t.posts) t.day ≡ true)

-- the numbers are arrivals of posts that count, of those pieces
abbrev pub Named : {P : Type 0} → Rule → Story P → List ℕ → List P → Type 0
Named counts t [] [] = Unit {0}
Named counts t [] (p ∷ ps) = ⊥
Named counts t (a ∷ ns) [] = ⊥
Named counts t (a ∷ ns) (p ∷ ps) = Counting counts t a p × Named counts t ns ps

-- Cover: the first numbers of the answer list name one to k centres that count, and every piece that counts lies
-- within the pick's radius of one of them.
pub record Cover {P : Type 0} (dist : Distance P) (counts : Rule) (t : Story P) (p : Picked)
    (answers : List ℕ) : Type 0 where
  pub centres : List P
  pub named : Named counts t (take p.count answers) centres
  pub all : length centres ≡ p.count
  pub few : Choice t.settings.k centres
  pub covers : Covers dist p.radius centres (window counts t)

-- how much farther than r a pick's radius may be
abbrev pub WithinFactor : Grain → ℕ → ℕ → ℕ → Type 0
WithinFactor Fine f radius r = f * radius ≤ (2 * f + 4) * r
WithinFactor Coarse f radius r = radius ≤ 10 * r

-- Factor: no choice of one to k pieces, posted or not, beats the pick by more.
abbrev pub Factor : {P : Type 0} → Distance P → Rule → Story P → Picked → Type 0
Factor {P} dist counts t p =
    (choice : List P) → Choice t.settings.k choice
    → WithinFactor p.grain t.settings.f p.radius (reach dist choice (window counts t))

-- every choice of one to k pieces, posted or not, reaches farther than b
abbrev pub Beyond : {P : Type 0} → Distance P → Rule → Story P → ℕ → Type 0
Beyond {P} dist counts t b = (choice : List P) → Choice t.settings.k choice → b < reach dist choice (window counts t)

-- what a floor says, where there is one
abbrev pub BeyondFloor : {P : Type 0} → Distance P → Rule → Story P → Option ℕ → Type 0
BeyondFloor dist counts t None = Unit {0}
BeyondFloor dist counts t (Some b) = Beyond dist counts t b

-- Refusal: no radius passes only if every choice reaches farther than the last radius; and no piece counts is said only
-- where none does, and where none does it is said, unless the shelf or a list is too short.
pub record Refused {P : Type 0} (dist : Distance P) (counts : Rule) (t : Story P) (e : Refusal) : Type 0 where
  pub beyond : e ≡ NoRadiusPasses → Beyond dist counts t (last_of 0 t.radii)
  pub nothing : e ≡ NothingCounts → window counts t ≡ []
  pub exactly : window counts t ≡ [] → (e ≡ NothingCounts) ⊎ ((e ≡ ShelfTooShort) ⊎ (e ≡ ListTooShort))

abbrev pub Answered : {P : Type 0} → Distance P → Rule → Story P → Result Picked Refusal → List ℕ → Type 0
Answered dist counts t (Ok p) answers =
    Cover dist counts t p answers × Factor dist counts t p × BeyondFloor dist counts t p.floor
Answered dist counts t (Err e) answers = Refused dist counts t e

-- what a pick promises, after what happened before it
abbrev pub OfPick : {P : Type 0} → Distance P → Rule → Story P → Event P → Type 0
OfPick dist counts t (Begin s) = Unit {0}
OfPick dist counts t (Radius g r) = Unit {0}
OfPick dist counts t (Open places) = Unit {0}
OfPick dist counts t (Post p d r) = Unit {0}
OfPick dist counts t (Turn d r) = Unit {0}
OfPick dist counts t (Find a r) = Unit {0}
OfPick dist counts t (HandOut at r) = Unit {0}
OfPick dist counts t (Pick answers work r answers') = Answered dist counts t r answers'

abbrev pub why : {X : Type 0} → Result X Refusal → Option Refusal
why (Ok x) = None
why (Err e) = Some e

-- the refusal of an event, if it was refused
abbrev pub refusal : {P : Type 0} → Event P → Option Refusal
refusal (Begin s) = None
refusal (Radius g r) = why r
refusal (Open places) = None
refusal (Post p d r) = why r
refusal (Turn d r) = why r
refusal (Find a r) = why r
refusal (HandOut at r) = why r
refusal (Pick answers work r answers') = why r

-- Room, of a call: with all the places that the book needs no call is refused for want of places.
abbrev pub Served : {P : Type 0} → Story P → Event P → Type 0
Served t e = needed t.settings (length t.radii) ≤ t.places → refusal e ≢ Some ShelfTooShort

-- each event of a run keeps its promise, after those before it
abbrev pub Upheld : {P : Type 0} → Distance P → Rule → List (Event P) → Type 0
Upheld dist counts [] = Unit {0}
Upheld dist counts (e ∷ es) = OfPick dist counts (story es) e × Served (story es) e × Upheld dist counts es

-- Room, of a book: no list passes its part of the shelf.
abbrev pub RowFits : {P : Type 0} → Settings → Row P → Type 0
RowFits s row =
    (length row.attractors ≤ attractor_room s.k)
    × (length row.representatives ≤ representative_room s.k)
    × (length row.fine ≤ s.fine_limit)

abbrev pub Fits : {P : Type 0} → Stage P → Type 0
Fits (SettingUp u) = Unit {0}
Fits (Opened b) = Every (RowFits b.settings) b.rows

-- In every run of a book, under a tape and a term of these meanings, cover, factor, refusal and room hold.
abbrev pub RunsHoldUnder : (P : Type 0) → Distance P → Rule → Type 0
RunsHoldUnder P dist counts =
    (es : List (Event P)) (stage : Stage P) → Reached dist counts es stage → Upheld dist counts es × Fits stage

-- The theorem: so it is under every tape and every term that obey the laws.
abbrev pub RunsHold : Type 0 → Type 0
RunsHold P = (dist : Distance P) → Metric dist → (counts : Rule) → Lawful counts → RunsHoldUnder P dist counts
