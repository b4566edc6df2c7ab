-- What a pick answers at a radius that passes: its centres cover the window, and no choice beats it by more.
use Rattle.std.proofs.Common.{◌≡◌, ℕ, ◌+◌, ◌*◌, ◌≤◌, true, leb, List, [], ◌∷◌, ◌++◌, map, length, drop, Some, None, Option, sym, refl, subst, inl, inr, mul-le-mul_left, arith}
use Rattle.std.specs.List.{ContainsAt as Has, AllByRecursion as Every}
use Rattle.std.proofs.ByRecursion.{All-weaker, all-has}
use Rattle.std.proofs.lemmas.List.{length-map, take_at}
use Rattle.std.proofs.lemmas.Bool.{leb-true, and_parts}
use Rattle.term.specs.Formulas.{Rule}
use Rattle.cover.proofs.Farthest.{farthest_first_lem}
use Rattle.cover.proofs.Nearest.{covers-reach}
use Rattle.cover.specs.Choices.{Choice, Good, reach, farthest_first}
use Rattle.cover.specs.Distances.{Distance, Metric, Near, Covers}
use Rattle.rules.proofs.Histories.{Days, Dated}
use Rattle.rules.proofs.Sound.{Living}
use Rattle.rules.proofs.Standing.{used_living, stands}
use Rattle.rules.proofs.Trials.{Passed}
use Rattle.rules.proofs.Windows.{BeatsFloor, counting-all, metric_apart, lone, covers-places}
use Rattle.rules.specs.Calls.{told_by, written_by}
use Rattle.rules.specs.Laws.{Lawful}
use Rattle.rules.specs.Picking.{grain_by, used, slack, apart, choose, Taken, pick_among}
use Rattle.rules.specs.Promises.{Story, Arrived, window, Named, Cover, BeyondFloor, WithinFactor, Answered}
use Rattle.rules.specs.Views.{Row}
use Rattle.rules.specs.Words.{Any}
use Rattle.rules.specs.declared.picked.Grain.{Grain}
use Rattle.rules.specs.declared.picked.Grain.TheVariants.{Fine, Coarse}
use Rattle.rules.specs.declared.place.Place.{Place}

abbrev LivingNow : {P : Type 0} → Rule → Story P → Place P → Type 0
LivingNow counts t x = Living counts t.posts (length t.posts) t.day x

abbrev pieces_of : {P : Type 0} → List (Place P) → List P
pieces_of xs = map (λ x. x.piece) xs

near_on : {P : Type 0} (dist : Distance P) (metric : Metric dist) (r t : ℕ) (cs : List (Place P)) (y : Place P)
    (q : P)
    → Near (apart dist) r cs y → dist y.piece q ≤ t → Near dist (r + t) (pieces_of cs) q
near_on dist metric r t [] y q near le = near
near_on dist metric r t (c ∷ cs) y q near le =
    elim near [
      | inl h ↦ inl (omega (arith, metric.triangle c.piece y.piece q))
      | inr h ↦ inr
          (near_on dist metric r t cs y q h le)
    ]

-- centres that cover a list cover what one of the list stands for
near_through : {P : Type 0} (dist : Distance P) (metric : Metric dist) (r t : ℕ) (cs xs : List (Place P)) (q : P)
    → Covers (apart dist) r cs xs → Any (λ y. dist y.piece q ≤ t) xs → Near dist (r + t) (pieces_of cs) q
near_through dist metric r t cs [] q cover a = elim a [ ]
near_through dist metric r t cs (x ∷ xs) q cover a =
    elim a [
      | inl h ↦ near_on dist metric r t cs x q cover.0 h
      | inr h ↦ near_through dist metric r t cs xs q
          cover.1 h
    ]

named : {P : Type 0} (counts : Rule) (t : Story P) (cs : List (Place P))
    → Every (Living counts t.posts (length t.posts) t.day) cs
    → Named counts t (map (λ x. x.arrival) cs) (pieces_of cs)
named counts t [] l = tt
named counts t (c ∷ cs) l = ((c.day, l.0.0, l.0.1), named counts t cs l.1)

-- the reach of a choice as a radius within which it covers
pub choice_covers : {P : Type 0} (dist : Distance P) (k : ℕ) (choice xs : List P) → Choice k choice
    → Covers dist (reach dist choice xs) choice xs
choice_covers dist k [] xs few = absurd (omega (arith, few.0))
choice_covers dist k (c ∷ cs) xs few = covers-reach dist c cs xs

-- the spread is at most twice the reach r, and so is the radius
factor : {P : Type 0} (grain : Grain) (f spread r : ℕ) (row : Row P) → spread ≤ 2 * r → row.radius ≤ 2 * r
    → WithinFactor grain f (spread + slack grain f row) r
factor Fine f spread r row a b = omega (arith, mul-le-mul_left f a)
factor Coarse f spread r row a b = omega arith

pub none_all : {X : Type 0} (xs : List X) → Every (λ x. ⊥) xs → xs ≡ []
none_all [] a = refl
none_all (x ∷ xs) a = absurd a.0

module _ {P : Type 0} (dist : Distance P) (metric : Metric dist) {counts : Rule} (law : Lawful counts) (t : Story P)
    (some : 1 ≤ t.settings.k) (days : Days t.day t.posts) (taken : Taken P)
    (p : Passed dist metric counts t.settings t.posts (length t.posts) t.day taken) where
  dated : Dated t.posts (length t.posts) t.day
  dated = (omega arith, days)

  few-attractors : length taken.row.attractors ≤ t.settings.k
  few-attractors =
      leb-true (length taken.row.attractors) t.settings.k
      (and_parts (leb (length taken.row.attractors) t.settings.k)
      (leb (length (choose dist (2 * taken.row.radius) [] taken.row.representatives)) t.settings.k)
      p.passes).0

  -- every piece that counts has one in the list that stands for it
  standing : (grain : Grain) → grain_by counts (length t.posts) t.day taken.row.lost ≡ grain
      → (xs : List (Place P)) → used grain taken.row ≡ xs → (a : ℕ) (q : P) (d : ℕ) → Arrived a q d t.posts
      → counts a d (length t.posts) t.day ≡ true
      → Any (λ y. dist y.piece q ≤ slack grain t.settings.f taken.row) xs
  standing grain e xs is a q d r c =
      subst (Any (λ y. dist y.piece q ≤ slack grain t.settings.f taken.row)) is
      (stands dist metric law t.settings t.posts (length t.posts) t.day dated taken.row p.sound
      few-attractors grain e a q d r c)

  -- centres chosen from a list of pieces that count, each piece that counts having one that stands for it
  module _ (grain : Grain) (xs cs : List (Place P)) (good : Good (apart dist) t.settings.k xs cs)
      (living : Every (LivingNow counts t) xs) where
    cover_of : ((a : ℕ) (q : P) (d : ℕ) → Arrived a q d t.posts → counts a d (length t.posts) t.day ≡ true
        → Any (λ y. dist y.piece q ≤ slack grain t.settings.f taken.row) xs)
        → (answers : List ℕ) (floor : Option ℕ)
        → Cover dist counts t (record {
          count = length cs;
          radius = reach (apart dist) cs xs + slack grain t.settings.f taken.row;
          floor = floor;
          grain = grain;
        }) (map (λ y. y.arrival) cs ++ drop (length cs) answers)
    cover_of stand answers floor =
        let those : Every (LivingNow counts t) cs =
        All-weaker (Has xs) (LivingNow counts t) (λ y h. all-has (LivingNow counts t) xs y living h) cs
        good.members in
        let front = take_at (map (λ y. y.arrival) cs) (drop (length cs) answers) (length cs)
        (length-map cs (λ y. y.arrival)) in
        record {
          centres = pieces_of cs;
          named = subst (λ ns. Named counts t ns (pieces_of cs)) (sym front) (named counts t cs those);
          all = length-map cs (λ y. y.piece);
          few = omega (arith, good.some, good.few, length-map cs (λ y. y.piece));
          covers =
              counting-all counts (length t.posts) t.day
              (Near dist (reach (apart dist) cs xs + slack grain t.settings.f taken.row) (pieces_of cs)) t.posts
              (λ a q d r c.
              near_through dist metric (reach (apart dist) cs xs) (slack grain t.settings.f taken.row) cs xs q
              good.covered (stand a q d r c));
        }

    factor_of : (choice : List P) → Choice t.settings.k choice
        → WithinFactor grain t.settings.f (reach (apart dist) cs xs + slack grain t.settings.f taken.row)
        (reach dist choice (window counts t))
    factor_of choice few =
        let r = reach dist choice (window counts t) in
        let cover = choice_covers dist t.settings.k choice (window counts t) few in
        let spread : reach (apart dist) cs xs ≤ 2 * r =
        good.best (map lone choice) r (omega (arith, few.1, length-map choice lone))
        (covers-places dist counts t.posts (length t.posts) t.day r choice xs living cover) in
        factor grain t.settings.f (reach (apart dist) cs xs) r taken.row spread (p.slight choice r few.1 cover)

  floor_of : (floor : Option ℕ) → BeatsFloor dist t.settings.k (window counts t) floor
      → BeyondFloor dist counts t floor
  floor_of None beats = tt
  floor_of (Some b) beats =
      λ choice few. beats choice (reach dist choice (window counts t)) few.1
      (choice_covers dist t.settings.k choice (window counts t) few)

  pub among : (grain : Grain) → grain_by counts (length t.posts) t.day taken.row.lost ≡ grain
      → (xs : List (Place P)) → used grain taken.row ≡ xs → (answers : List ℕ)
      → Answered dist counts t (told_by (pick_among dist t.settings taken grain xs))
      (written_by (pick_among dist t.settings taken grain xs) answers)
  among grain e [] is answers = record {
    beyond = λ bad. let z : ◌≡◌ {A = ℕ} 0 1 = cc in absurd (omega arith);
    nothing = λ _.
        none_all (window counts t)
        (counting-all counts (length t.posts) t.day (λ x. ⊥) t.posts
        (λ a q d r c. standing grain e [] is a q d r c));
    exactly = λ _. inl refl;
  }
  among grain e (x ∷ xs) is answers =
      let cs = farthest_first (apart dist) t.settings.k (x ∷ xs) in
      let good = farthest_first_lem (Place P) (apart dist) (metric_apart metric) t.settings.k (x ∷ xs) some (omega arith) in
      let living : Every (LivingNow counts t) (x ∷ xs) =
      subst (Every (LivingNow counts t)) is
      (used_living dist metric law t.settings t.posts (length t.posts) t.day dated taken.row
      p.sound grain) in (
        cover_of grain (x ∷ xs) cs good living (standing grain e (x ∷ xs) is) answers taken.floor,
        factor_of grain (x ∷ xs) cs good living,
        floor_of taken.floor p.below,
      )
