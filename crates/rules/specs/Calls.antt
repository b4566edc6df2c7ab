-- What each call answers, refuses and leaves, for every input. A refusal leaves everything as it was.
use Rattle.std.specs.Prelude.{◌≡◌, ℕ, suc, ◌+◌, Bool, true, not, ◌&&◌, ◌||◌, List, [], ◌∷◌, ◌++◌, map, length, drop, Some, None, Ok, Err, Option, Result, nat_eq, nat_le, nat_lt}
use Rattle.cover.specs.Distances.{Distance}
use Rattle.refusal.specs.Makes.{MadeIf}
use Rattle.refusal.specs.declared.Refusal.{Refusal}
use Rattle.refusal.specs.declared.Refusal.TheVariants.{SettingOutOfRange, RadiusListFull, RadiusNotAllowed, ShelfTooShort, PostsUsedUp, DayNotAllowed, ListTooShort, NothingCounts, ArrivalNotKept}
use Rattle.term.specs.Formulas.{Rule}
use Rattle.rules.specs.Limits.{Judged, most_radii, greatest_radius, allowed, most_posts, bad_day, representatives_at, latests_at, part_size, needed, work_needed}
use Rattle.rules.specs.Picking.{Pick, taken, pick_from}
use Rattle.rules.specs.Steps.{bare, expire, post_row}
use Rattle.rules.specs.Views.{Settings, Row, Setup, View}
use Rattle.rules.specs.Words.{first_of, is_empty, last_of, first_reason, after, leaves, ok_or}
use Rattle.rules.specs.declared.picked.Picked.{Picked}
use Rattle.rules.specs.declared.place.Place.{Place}

-- Settings are judged together: made exactly where all three are in range.
abbrev pub SettingsRule : Settings → Result Settings Refusal → Type 0
SettingsRule s r = MadeIf (Judged s) (λ t. t ≡ s) SettingOutOfRange r

-- A book begins with the radius 0 alone.
abbrev pub beginning : Settings → Setup
beginning s = record { settings = s; radii = 0 ∷ [] }

abbrev pub BeginRule : Settings → Setup → Type 0
BeginRule s u = u ≡ beginning s

-- A further radius. The refusals of each call stand in the order in which they are tested.
abbrev pub radius_tests : Setup → ℕ → List (Bool × Refusal)
radius_tests u g =
    (nat_le most_radii (length u.radii), RadiusListFull)
    ∷ (not (allowed (last_of 0 u.radii) g && nat_le g greatest_radius), RadiusNotAllowed)
    ∷ []

abbrev pub why_not_radius : Setup → ℕ → Option Refusal
why_not_radius u g = first_reason (radius_tests u g)

abbrev pub with_radius : Setup → ℕ → Setup
with_radius u g = record { settings = u.settings; radii = u.radii ++ (g ∷ []) }

pub record RadiusRule (u : Setup) (g : ℕ) (r : Result (Unit {0}) Refusal) (u' : Setup) : Type 0 where
  pub answer : r ≡ after (why_not_radius u g) (Ok tt)
  pub left : u' ≡ leaves (why_not_radius u g) u (with_radius u g)

-- Opening cannot refuse. The shelf may have any number of places and hold anything.
abbrev pub opening : {P : Type 0} → Setup → ℕ → View P
opening u places = record { settings = u.settings; rows = map bare u.radii; posts = 0; day = 0; places = places }

abbrev pub OpenRule : {P : Type 0} → Setup → ℕ → View P → Type 0
OpenRule u places b = b ≡ opening u places

-- the shelf is too short for the book
abbrev pub short : {P : Type 0} → View P → Bool
short b = nat_lt b.places (needed b.settings (length b.rows))

-- A post of a piece on a day.
abbrev pub post_tests : {P : Type 0} → View P → ℕ → List (Bool × Refusal)
post_tests b d =
    (short b, ShelfTooShort)
    ∷ (nat_le most_posts b.posts, PostsUsedUp)
    ∷ (bad_day b.day d, DayNotAllowed)
    ∷ []

abbrev pub why_not_post : {P : Type 0} → View P → ℕ → Option Refusal
why_not_post b d = first_reason (post_tests b d)

-- the place that holds the next piece
abbrev pub arriving : {P : Type 0} → View P → P → ℕ → Place P
arriving b p d = record { piece = p; arrival = suc b.posts; day = d; attractor = 0 }

abbrev pub posted : {P : Type 0} → Distance P → Rule → P → ℕ → View P → View P
posted dist counts p d b = record {
  settings = b.settings;
  rows = map (post_row dist counts b.settings (arriving b p d)) b.rows;
  posts = suc b.posts;
  day = d;
  places = b.places;
}

pub record PostRule {P : Type 0} (dist : Distance P) (counts : Rule) (b : View P) (p : P) (d : ℕ)
    (r : Result (Unit {0}) Refusal) (b' : View P) : Type 0 where
  pub answer : r ≡ after (why_not_post b d) (Ok tt)
  pub left : b' ≡ leaves (why_not_post b d) b (posted dist counts p d b)

-- A turn of the day.
abbrev pub turn_tests : {P : Type 0} → View P → ℕ → List (Bool × Refusal)
turn_tests b d = (short b, ShelfTooShort) ∷ (bad_day b.day d, DayNotAllowed) ∷ []

abbrev pub why_not_turn : {P : Type 0} → View P → ℕ → Option Refusal
why_not_turn b d = first_reason (turn_tests b d)

abbrev pub turned : {P : Type 0} → Rule → ℕ → View P → View P
turned counts d b = record {
  settings = b.settings;
  rows = map (expire counts b.posts d) b.rows;
  posts = b.posts;
  day = d;
  places = b.places;
}

pub record TurnRule {P : Type 0} (counts : Rule) (b : View P) (d : ℕ) (r : Result (Unit {0}) Refusal)
    (b' : View P) : Type 0 where
  pub answer : r ≡ after (why_not_turn b d) (Ok tt)
  pub left : b' ≡ leaves (why_not_turn b d) b (turned counts d b)

-- a list with its places on the shelf, from the place `at` on
abbrev pub lying : {P : Type 0} → ℕ → List (Place P) → List (ℕ × Place P)
lying at [] = []
lying at (x ∷ xs) = (at, x) ∷ lying (suc at) xs

-- What can be found of one radius, whose part of the shelf begins at `at`, in the order of its places: attractors,
-- coarse representatives and latest pieces.
abbrev pub lying_in : {P : Type 0} → Settings → ℕ → Row P → List (ℕ × Place P)
lying_in s at row =
    lying at row.attractors
    ++ (lying (at + representatives_at s) row.representatives
    ++ lying (at + latests_at s) (map (λ e. e.latest) row.fine))

-- the same of all radii, one part after another
abbrev pub lying_from : {P : Type 0} → Settings → ℕ → List (Row P) → List (ℕ × Place P)
lying_from s at [] = []
lying_from s at (row ∷ rows) = lying_in s at row ++ lying_from s (at + part_size s) rows

abbrev pub shelved : {P : Type 0} → View P → List (ℕ × Place P)
shelved b = lying_from b.settings 0 b.rows

-- A find, a hand out and a pick are lent the book and the shelf for reading, so these keep what they held.
-- Find and hand out are refused for a short shelf, and for what is not there.
abbrev pub seek_tests : {P : Type 0} → View P → List (Bool × Refusal)
seek_tests b = (short b, ShelfTooShort) ∷ []

abbrev pub why_not_seek : {P : Type 0} → View P → Option Refusal
why_not_seek b = first_reason (seek_tests b)

-- the place of the first that passes, and its piece
abbrev pub place_of : {P : Type 0} → Option (ℕ × Place P) → Option ℕ
place_of None = None
place_of (Some x) = Some x.0

abbrev pub piece_of : {P : Type 0} → Option (ℕ × Place P) → Option P
piece_of None = None
piece_of (Some x) = Some x.1.piece

-- Find, for an arrival: the lowest place of its piece.
abbrev pub FindRule : {P : Type 0} → View P → ℕ → Result ℕ Refusal → Type 0
FindRule b a r = r ≡ after (why_not_seek b)
    (ok_or ArrivalNotKept (place_of (first_of (λ x. nat_eq x.1.arrival a) (shelved b))))

-- Hand out: the piece at a place.
abbrev pub HandOutRule : {P : Type 0} → View P → ℕ → Result P Refusal → Type 0
HandOutRule b at r = r ≡ after (why_not_seek b)
    (ok_or ArrivalNotKept (piece_of (first_of (λ x. nat_eq x.0 at) (shelved b))))

-- no piece counts: the first radius has no coarse representative
abbrev pub nothing_in : {P : Type 0} → List (Row P) → Bool
nothing_in [] = true
nothing_in (row ∷ rows) = is_empty row.representatives

-- A pick, with an answer list and a work list.
abbrev pub pick_tests : {P : Type 0} → View P → List ℕ → List ℕ → List (Bool × Refusal)
pick_tests b answers work =
    (short b, ShelfTooShort)
    ∷ (nat_lt (length answers) b.settings.k || nat_lt (length work) (work_needed b.settings), ListTooShort)
    ∷ (nothing_in b.rows, NothingCounts)
    ∷ []

abbrev pub why_not_pick : {P : Type 0} → View P → List ℕ → List ℕ → Option Refusal
why_not_pick b answers work = first_reason (pick_tests b answers work)

abbrev pub pick : {P : Type 0} → Distance P → Rule → View P → List ℕ → List ℕ → Result (Pick P) Refusal
pick dist counts b answers work = after (why_not_pick b answers work) (pick_from dist counts b (taken dist b))

abbrev pub told_by : {P : Type 0} → Result (Pick P) Refusal → Result Picked Refusal
told_by (Ok p) = Ok p.told
told_by (Err e) = Err e

-- the centres' arrivals at the front of the answer list, the rest of it as it was
abbrev pub written_by : {P : Type 0} → Result (Pick P) Refusal → List ℕ → List ℕ
written_by (Ok p) answers = map (λ x. x.arrival) p.centres ++ drop (length p.centres) answers
written_by (Err e) answers = answers

-- a refusal leaves the work list; an answered pick may leave anything there
abbrev pub Spared : {P : Type 0} → Result (Pick P) Refusal → List ℕ → List ℕ → Type 0
Spared (Ok p) work work' = Unit {0}
Spared (Err e) work work' = work' ≡ work

pub record PickRule {P : Type 0} (dist : Distance P) (counts : Rule) (b : View P) (answers work : List ℕ)
    (r : Result Picked Refusal) (answers' work' : List ℕ) : Type 0 where
  pub answer : r ≡ told_by (pick dist counts b answers work)
  pub written : answers' ≡ written_by (pick dist counts b answers work) answers
  pub spared : Spared (pick dist counts b answers work) work work'
