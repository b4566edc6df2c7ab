-- What the book of one kind answers to a command of a feed, and where the command leaves it.
use Rattle.std.specs.Prelude.{ℕ, List, replicate, Some, None, Ok, Err, Option, Result}
use Rattle.cover.specs.Distances.{Distance}
use Rattle.label.specs.declared.Label.{Label}
use Rattle.refusal.specs.declared.Refusal.{Refusal}
use Rattle.refusal.specs.declared.Refusal.TheVariants.{OutOfPlace}
use Rattle.rules.specs.Calls.{opening, pick, posted, told_by, turned, why_not_post, why_not_radius, why_not_turn, with_radius, written_by}
use Rattle.rules.specs.Picking as picking
use Rattle.rules.specs.Runs.{Stage, SettingUp, Opened}
use Rattle.rules.specs.Words.{after, leaves}
use Rattle.rules.specs.declared.picked.Picked.{Picked}
use Rattle.term.specs.Formulas.{Rule}
use Rattle.desk.specs.declared.ask.Ask.{Ask}
use Rattle.desk.specs.declared.ask.Ask.TheVariants.{Radius, Open, Post, Turn, Pick, Stray}

-- the lists that a pick is lent: 12 numbers for the answer, and 64 to work with
abbrev pub blank : List ℕ
blank = replicate 12 0

abbrev pub spare : List ℕ
spare = replicate 64 0

-- a call that answers nothing but that it was performed
abbrev pub performed : Result (Unit {0}) Refusal → Result (Option Label) Refusal
performed (Ok u) = Ok None
performed (Err e) = Err e

-- a pick answers its label: what it told, and what it wrote to the answer list
abbrev pub label_from : Result Picked Refusal → List ℕ → Result (Option Label) Refusal
label_from (Ok p) arrivals = Ok (Some (record { picked = p; arrivals = arrivals }))
label_from (Err e) arrivals = Err e

abbrev pub labelled : {P : Type 0} → Result (picking.Pick P) Refusal → Result (Option Label) Refusal
labelled p = label_from (told_by p) (written_by p blank)

-- A radius and opening are out of place once the book is open, everything else before.
abbrev pub answer_to : {P : Type 0} → Distance P → Rule → Stage P → Ask P → Result (Option Label) Refusal
answer_to dist counts (SettingUp u) (Radius g) = performed (after (why_not_radius u g) (Ok tt))
answer_to dist counts (SettingUp u) Open = Ok None
answer_to dist counts (SettingUp u) (Post p d) = Err OutOfPlace
answer_to dist counts (SettingUp u) (Turn d) = Err OutOfPlace
answer_to dist counts (SettingUp u) Pick = Err OutOfPlace
answer_to dist counts (SettingUp u) Stray = Err OutOfPlace
answer_to dist counts (Opened b) (Radius g) = Err OutOfPlace
answer_to dist counts (Opened b) Open = Err OutOfPlace
answer_to dist counts (Opened b) (Post p d) = performed (after (why_not_post b d) (Ok tt))
answer_to dist counts (Opened b) (Turn d) = performed (after (why_not_turn b d) (Ok tt))
answer_to dist counts (Opened b) Pick = labelled (pick dist counts b blank spare)
answer_to dist counts (Opened b) Stray = Err OutOfPlace

-- the stage after it, on a shelf of so many places
abbrev pub stage_after : {P : Type 0} → Distance P → Rule → ℕ → Stage P → Ask P → Stage P
stage_after dist counts places (SettingUp u) (Radius g) = SettingUp (leaves (why_not_radius u g) u (with_radius u g))
stage_after dist counts places (SettingUp u) Open = Opened (opening u places)
stage_after dist counts places (SettingUp u) (Post p d) = SettingUp u
stage_after dist counts places (SettingUp u) (Turn d) = SettingUp u
stage_after dist counts places (SettingUp u) Pick = SettingUp u
stage_after dist counts places (SettingUp u) Stray = SettingUp u
stage_after dist counts places (Opened b) (Radius g) = Opened b
stage_after dist counts places (Opened b) Open = Opened b
stage_after dist counts places (Opened b) (Post p d) =
    Opened (leaves (why_not_post b d) b (posted dist counts p d b))
stage_after dist counts places (Opened b) (Turn d) = Opened (leaves (why_not_turn b d) b (turned counts d b))
stage_after dist counts places (Opened b) Pick = Opened b
stage_after dist counts places (Opened b) Stray = Opened b
