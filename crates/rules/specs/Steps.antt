-- What a post and a turn of the day do to one radius. `dist` is the tape's distance, and `counts` tells whether a
-- piece of an arrival and a day counts, from the posts made and the day. Within a number is at most that number.
use Rattle.std.specs.Prelude.{ℕ, suc, ◌*◌, ◌/◌, Bool, cond, leb, List, [], ◌∷◌, ◌++◌, length, drop, Some, None, filter, Option, ◌==◌, nat_eq, nat_le}
use Rattle.cover.specs.Distances.{Distance}
use Rattle.term.specs.Formulas.{Rule}
use Rattle.term.specs.declared.window.Stamp.{Stamp}
use Rattle.rules.specs.Views.{Settings, Entry, Row}
use Rattle.rules.specs.Words.{first_of, change_first, least}
use Rattle.rules.specs.declared.place.Place.{Place}

-- the pieces of two places lie within r
abbrev pub within : {P : Type 0} → Distance P → ℕ → Place P → Place P → Bool
within dist r x y = nat_le (dist x.piece y.piece) r

-- the piece at a place counts
abbrev pub alive : {P : Type 0} → Rule → ℕ → ℕ → Place P → Bool
alive counts posts day x = counts x.arrival x.day posts day

-- the piece of a place as the representative of an attractor
abbrev pub standing_for : {P : Type 0} → ℕ → Place P → Place P
standing_for a x = record { piece = x.piece; arrival = x.arrival; day = x.day; attractor = a }

-- a radius with nothing in it
abbrev pub bare : {P : Type 0} → ℕ → Row P
bare g = record { radius = g; attractors = []; representatives = []; fine = []; lost = None }

-- the step of a radius: the radius divided by the fineness, rounded down
abbrev pub step : ℕ → ℕ → ℕ
step f g = g / f

-- What no longer counts is removed: attractors, representatives, and fine entries by their latest piece.
abbrev pub expire : {P : Type 0} → Rule → ℕ → ℕ → Row P → Row P
expire counts posts day row = record {
  radius = row.radius;
  attractors = filter (alive counts posts day) row.attractors;
  representatives = filter (alive counts posts day) row.representatives;
  fine = filter (λ e. alive counts posts day e.latest) row.fine;
  lost = row.lost;
}

-- Attractor v takes the piece: its representative becomes the piece. Where no place is v's, nothing is changed.
abbrev pub attract : {P : Type 0} → Place P → Place P → Row P → Row P
attract x v row = record {
  radius = row.radius;
  attractors = row.attractors;
  representatives = change_first (λ y. nat_eq y.attractor v.arrival) (λ y. standing_for y.attractor x) row.representatives;
  fine = row.fine;
  lost = row.lost;
}

-- k + 2 attractors lose the oldest
abbrev pub trim : {P : Type 0} → ℕ → List (Place P) → List (Place P)
trim k xs = cond (length xs == suc (suc k)) (drop 1 xs) xs

-- The piece is put last among the attractors, and last among the representatives as its own.
abbrev pub enrol : {P : Type 0} → ℕ → Place P → Row P → Row P
enrol k x row = record {
  radius = row.radius;
  attractors = trim k (row.attractors ++ (x ∷ []));
  representatives = row.representatives ++ (standing_for x.arrival x ∷ []);
  fine = row.fine;
  lost = row.lost;
}

-- the oldest attractor's arrival
abbrev pub oldest : {P : Type 0} → List (Place P) → ℕ
oldest [] = 0
oldest (v ∷ vs) = v.arrival

-- With k + 1 attractors, what is older than the oldest of them is removed.
abbrev pub clean_up : {P : Type 0} → ℕ → Row P → Row P
clean_up k row = cond (length row.attractors == suc k) (record {
  radius = row.radius;
  attractors = row.attractors;
  representatives = filter (λ y. leb (oldest row.attractors) y.arrival) row.representatives;
  fine = filter (λ e. leb (oldest row.attractors) e.latest.arrival) row.fine;
  lost = row.lost;
}) row

-- The oldest attractor within twice the radius takes the piece; if there is none, it becomes one itself.
abbrev pub settle_by : {P : Type 0} → ℕ → Place P → Row P → Option (Place P) → Row P
settle_by k x row (Some v) = attract x v row
settle_by k x row None = clean_up k (enrol k x row)

abbrev pub settle : {P : Type 0} → Distance P → ℕ → Place P → Row P → Row P
settle dist k x row = settle_by k x row (first_of (λ v. within dist (2 * row.radius) v x) row.attractors)

-- the latest piece of an entry becomes x
abbrev pub taken_by : {P : Type 0} → Place P → Entry P → Entry P
taken_by x e = record { first = e.first; latest = x }

-- Where the fine limit is reached, the entry with the least latest arrival goes, and leaves the lost mark.
abbrev pub make_room : {P : Type 0} → ℕ → List (Entry P) → Option Stamp → List (Entry P) × Option Stamp
make_room limit [] lost = ([], lost)
make_room {P} limit (e ∷ es) lost =
    let gone = least (λ y. y.latest.arrival) e es in
    cond {A = List (Entry P) × Option Stamp} (length (e ∷ es) == limit)
    (gone.1, Some (record { arrival = gone.0.latest.arrival; day = gone.0.latest.day }))
    (e ∷ es, lost)

-- The first entry whose first piece is within s takes the piece; if there is none, a new entry goes last.
abbrev pub refine_by : {P : Type 0} → Distance P → ℕ → ℕ → Place P → Row P → Option (Entry P) → Row P
refine_by dist limit s x row (Some e) = record {
  radius = row.radius;
  attractors = row.attractors;
  representatives = row.representatives;
  fine = change_first (λ y. within dist s y.first x) (taken_by x) row.fine;
  lost = row.lost;
}
refine_by dist limit s x row None = record {
  radius = row.radius;
  attractors = row.attractors;
  representatives = row.representatives;
  fine = (make_room limit row.fine row.lost).0 ++ (record { first = x; latest = x } ∷ []);
  lost = (make_room limit row.fine row.lost).1;
}

abbrev pub refine : {P : Type 0} → Distance P → Settings → Place P → Row P → Row P
refine dist settings x row =
    let s = step settings.f row.radius in
    refine_by dist settings.fine_limit s x row (first_of (λ e. within dist s e.first x) row.fine)

-- A piece enters: it settles among the attractors, and then among the fine entries.
abbrev pub enter : {P : Type 0} → Distance P → Settings → Place P → Row P → Row P
enter dist settings x row = refine dist settings x (settle dist settings.k x row)

-- A post to one radius: what no longer counts goes, and the piece enters.
abbrev pub post_row : {P : Type 0} → Distance P → Rule → Settings → Place P → Row P → Row P
post_row dist counts settings x row = enter dist settings x (expire counts x.arrival x.day row)
