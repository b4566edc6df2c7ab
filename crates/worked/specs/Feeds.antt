-- Books of hull panels under the hull tape and the term of the last three pieces, posted to on day 1.
use Rattle.std.specs.Prelude.{ℕ, min, List, [], ◌∷◌, replicate, pos, Some, Ok, Err, Result}
use Rattle.cover.specs.Distances.{Distance}
use Rattle.refusal.specs.declared.Refusal.{Refusal}
use Rattle.refusal.specs.declared.Refusal.TheVariants.{DayNotAllowed, NoRadiusPasses}
use Rattle.rules.specs.Calls.{beginning, why_not_radius, with_radius, opening, why_not_post, posted, PickRule}
use Rattle.rules.specs.Runs.{Event, Begin, Radius, Open, Post, Pick}
use Rattle.rules.specs.Views.{Settings, Setup, View}
use Rattle.rules.specs.Words.{leaves}
use Rattle.rules.specs.declared.picked.Grain.TheVariants.{Fine}
use Rattle.rules.specs.declared.picked.Picked.{Picked}
use Rattle.tape.specs.Hull.{widest}
use Rattle.tape.specs.Limits.{limit}
use Rattle.tape.specs.declared.hull.Panel.{Panel}
use Rattle.term.specs.Formulas.{Rule, by_number}

-- the distance of the hull tape
abbrev pub hull : Distance Panel
hull a b = min (widest 8 a.offsets b.offsets) limit

-- a panel with eight offsets of n
abbrev pub panel : ℕ → Panel
panel n = record { offsets = replicate 8 (pos n) }

-- the last three pieces count
abbrev pub last_three : Rule
last_three = by_number 3

-- one centre, fineness 2, and a fine limit
abbrev pub one_centre : ℕ → Settings
one_centre fine_limit = record { k = 1; f = 2; fine_limit = fine_limit }

-- a book that is being set up, with further radii entered
abbrev pub entered : List ℕ → Setup → Setup
entered [] u = u
entered (g ∷ gs) u = entered gs (leaves (why_not_radius u g) u (with_radius u g))

abbrev pub set_up : ℕ → Setup
set_up fine_limit = entered (1 ∷ 2 ∷ 4 ∷ []) (beginning (one_centre fine_limit))

-- panels of such offsets posted one after another
abbrev pub fed : List ℕ → View Panel → View Panel
fed [] b = b
fed (n ∷ ns) b = fed ns (leaves (why_not_post b 1) b (posted hull last_three (panel n) 1 b))

-- the book opened, with a shelf of 56 places, and so posted to
abbrev pub book : ℕ → List ℕ → View Panel
book fine_limit ns = fed ns (opening (set_up fine_limit) 56)

-- A pick from that book, lent the answer list 7, 9, answers r and leaves the answer list as `left`.
abbrev pub Picks : ℕ → List ℕ → Result Picked Refusal → List ℕ → Type 0
Picks fine_limit ns r left = PickRule hull last_three (book fine_limit ns) (7 ∷ 9 ∷ []) (0 ∷ 0 ∷ 0 ∷ 0 ∷ []) r left (0 ∷ 0 ∷ 0 ∷ 0 ∷ [])

-- The worked feed, newest first: two panels and a pick, a third panel and a refused pick, a fourth and a pick, and a
-- panel on an earlier day.
abbrev pub feed : List (Event Panel)
feed =
    Post (panel 4) 0 (Err DayNotAllowed)
    ∷ Pick (7 ∷ 9 ∷ []) (0 ∷ 0 ∷ 0 ∷ 0 ∷ []) (Ok (record { count = 1; radius = 10; floor = Some 2; grain = Fine })) (4 ∷ 9 ∷ [])
    ∷ Post (panel 4) 1 (Ok tt)
    ∷ Pick (7 ∷ 9 ∷ []) (0 ∷ 0 ∷ 0 ∷ 0 ∷ []) (Err NoRadiusPasses) (7 ∷ 9 ∷ [])
    ∷ Post (panel 10) 1 (Ok tt)
    ∷ Pick (7 ∷ 9 ∷ []) (0 ∷ 0 ∷ 0 ∷ 0 ∷ []) (Ok (record { count = 1; radius = 5; floor = Some 1; grain = Fine })) (1 ∷ 9 ∷ [])
    ∷ Post (panel 3) 1 (Ok tt)
    ∷ Post (panel 0) 1 (Ok tt)
    ∷ Open 56
    ∷ Radius 4 (Ok tt)
    ∷ Radius 2 (Ok tt)
    ∷ Radius 1 (Ok tt)
    ∷ Begin (one_centre 4)
    ∷ []
