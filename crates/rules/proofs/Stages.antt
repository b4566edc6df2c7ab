-- What is true of the book at every stage of a run, from what happened: the invariant over runs. Setting up and
-- opening keep it.
use Rattle.std.proofs.Common.{◌≡◌, ℕ, ◌≤◌, true, ◌&&◌, leb, List, [], ◌∷◌, ◌++◌, map, length, Some, None, Ok, Option, Result, sym, refl, ap, ◌∙◌, subst, arith}
use Rattle.std.specs.List.{AllByRecursion as Every}
use Rattle.std.proofs.lemmas.List.{length-map}
use Rattle.std.proofs.lemmas.Bool.{and_parts, not-false}
use Rattle.refusal.specs.declared.Refusal.{Refusal}
use Rattle.term.specs.Formulas.{Rule}
use Rattle.cover.specs.Distances.{Distance}
use Rattle.rules.proofs.Histories.{Days}
use Rattle.rules.proofs.Reasons.{no_reason}
use Rattle.rules.proofs.Sound.{Sound}
use Rattle.rules.proofs.Trials.{Growing}
use Rattle.rules.specs.Calls.{radius_tests, why_not_radius, with_radius, RadiusRule, opening, OpenRule}
use Rattle.rules.specs.Limits.{Judged, allowed, greatest_radius}
use Rattle.rules.specs.Promises.{Story, next}
use Rattle.rules.specs.Runs.{Radius, Open, Stage, SettingUp, Opened}
use Rattle.rules.specs.Steps.{bare}
use Rattle.rules.specs.Views.{Settings, Row, Setup, View}
use Rattle.rules.specs.Words.{last_of, after, leaves}

abbrev pub radii_of : {P : Type 0} → List (Row P) → List ℕ
radii_of rows = map (λ r. r.radius) rows

-- the book that the story tells, with these rows
abbrev pub view_of : {P : Type 0} → Story P → List (Row P) → View P
view_of t rows = record {
  settings = t.settings;
  rows = rows;
  posts = length
      t.posts;
  day = t.day;
  places = t.places;
}

pub record Begun {P : Type 0} (t : Story P) (u : Setup) : Type 0 where
  pub same : u ≡ record { settings = t.settings; radii = t.radii }
  pub judged : Judged t.settings
  pub growing : Growing None t.radii
  pub some : 1 ≤ length t.radii
  pub posts : t.posts ≡ []
  pub day : t.day ≡ 0

pub record Running {P : Type 0} (dist : Distance P) (counts : Rule) (t : Story P) (b : View P) : Type 0 where
  pub rows : List (Row P)
  pub same : b ≡ view_of t rows
  pub judged : Judged t.settings
  pub radii : radii_of rows ≡ t.radii
  pub growing : Growing None (radii_of rows)
  pub some : 1 ≤ length rows
  pub days : Days t.day t.posts
  pub sound : Every (Sound dist counts t.settings t.posts (length t.posts) t.day) rows

abbrev pub Holds : {P : Type 0} → Distance P → Rule → Story P → Stage P → Type 0
Holds dist counts t (SettingUp u) = Begun t u
Holds dist counts t (Opened b) = Running dist counts t b

growing_push : (floor : Option ℕ) (gs : List ℕ) (d g : ℕ) → Growing floor gs → 1 ≤ length gs
    → allowed (last_of d gs) g ≡ true → Growing floor (gs ++ (g ∷ []))
growing_push floor [] d g grow some ok = absurd (omega arith)
growing_push None (x ∷ []) d g grow some ok = (grow.0, (ok, tt))
growing_push None (x ∷ (y ∷ ys)) d g grow some ok =
    (grow.0, growing_push (Some x) (y ∷ ys) x g grow.1 (omega arith) ok)
growing_push (Some b) (x ∷ []) d g grow some ok = (grow.0, (ok, tt))
growing_push (Some b) (x ∷ (y ∷ ys)) d g grow some ok =
    (grow.0, growing_push (Some x) (y ∷ ys) x g grow.1 (omega arith) ok)

-- the book that is being set up, as the story tells it
abbrev setup_of : {P : Type 0} → Story P → Setup
setup_of t = record { settings = t.settings; radii = t.radii }

longer : (gs : List ℕ) (g : ℕ) → 1 ≤ length (gs ++ (g ∷ []))
longer [] g = omega arith
longer (x ∷ xs) g = omega arith

radius_by : {P : Type 0} (t : Story P) (g : ℕ) (o : Option Refusal) → why_not_radius (setup_of t) g ≡ o
    → Begun t (setup_of t)
    → Begun (next (Radius g (after o (Ok tt))) t) (leaves o (setup_of t) (with_radius (setup_of t) g))
radius_by t g (Some e) none k = k
radius_by t g None none k = record {
  same = refl;
  judged = k.judged;
  growing =
      growing_push None t.radii 0 g k.growing k.some
      (and_parts (allowed (last_of 0 t.radii) g) (leb g greatest_radius)
      (not-false (allowed (last_of 0 t.radii) g && leb g greatest_radius)
      (no_reason (radius_tests (setup_of t) g) none).1.0)).0;
  some = longer t.radii g;
  posts = k.posts;
  day = k.day;
}

pub radius_kept : {P : Type 0} (t : Story P) (g : ℕ) (u u2 : Setup) (r : Result (Unit {0}) Refusal) → Begun t u
    → RadiusRule u g r u2 → Begun (next (Radius g r) t) u2
radius_kept t g u u2 r k rule =
    let here : RadiusRule (setup_of t) g r u2 = subst (λ w. RadiusRule w g r u2) k.same rule in
    let o = why_not_radius (setup_of t) g in
    subst (λ w. Begun (next (Radius g r) t) w) (sym here.left)
    (subst (λ s. Begun (next (Radius g s) t) (leaves o (setup_of t) (with_radius (setup_of t) g))) (sym here.answer)
    (radius_by t g o refl (subst (Begun t) k.same k)))

radii-bare : (P : Type 0) (gs : List ℕ) → radii_of {P = P} (map bare gs) ≡ gs
radii-bare P [] = refl
radii-bare P (g ∷ gs) = ap (λ xs. g ∷ xs) (radii-bare P gs)

module _ {P : Type 0} (dist : Distance P) (counts : Rule) where
  -- an empty radius is sound where nothing has been posted
  bare_sound : (set : Settings) (m n : ℕ) (g : ℕ) → Sound dist counts set [] m n (bare g)
  bare_sound set m n g = record {
    coarse = record {
      living = tt;
      apart = tt;
      few = omega arith;
      tied = tt;
      split = record {
        orphans = [];
        own =
            [];
        is = refl;
        few = omega arith;
        parts = record { few_at = tt; below = tt; owned = tt };
      };
      covered = λ q a d r c rel. elim r [ ];
    };
    fine = record { near = tt; few = omega arith; marked = tt; covered = λ q a d r c rel above. elim r [ ] };
  }

  bares_sound : (set : Settings) (m n : ℕ) (gs : List ℕ) → Every (Sound dist counts set [] m n) (map bare gs)
  bares_sound set m n [] = tt
  bares_sound set m n (g ∷ gs) = (bare_sound set m n g, bares_sound set m n gs)

  pub open_kept : (t : Story P) (u : Setup) (b : View P) (places : ℕ) → Begun t u → OpenRule u places b
      → Running dist counts (next (Open places) t) b
  open_kept t u b places k rule = record {
    rows = map bare t.radii;
    same = rule ∙ ap (λ w. opening w places) k.same ∙ empty;
    judged = k.judged;
    radii = radii-bare P t.radii;
    growing = subst (Growing None) (sym (radii-bare P t.radii)) k.growing;
    some = omega (arith, k.some, length-map t.radii (bare {P = P}));
    days = subst (Days t.day) (sym k.posts) tt;
    sound =
        subst (λ h. Every (Sound dist counts t.settings h (length t.posts) t.day) (map bare t.radii))
        (sym k.posts)
        (bares_sound t.settings (length t.posts) t.day t.radii);
  }
    where
      empty : opening (setup_of t) places ≡ view_of (next (Open places) t) (map bare t.radii)
      empty i = record {
        settings = t.settings;
        rows = map bare t.radii;
        posts = sym
            (ap length k.posts) i;
        day = sym k.day i;
        places = places;
      }
