-- A run of the book goes along with the commands that it takes, and so their answers keep their promises.
use Rattle.std.proofs.Common.{◌≡◌, ℕ, ◌≤◌, List, [], ◌∷◌, length, Some, None, Ok, Err, Option, Result, sym, refl, ap, ◌∙◌, subst, inl, inr, arith}
use Rattle.std.proofs.lemmas.Bool.Decides.{nat_tests}
use Rattle.cover.specs.Distances.{Distance, Metric}
use Rattle.label.specs.declared.Label.{Label}
use Rattle.refusal.specs.declared.Refusal.{Refusal}
use Rattle.refusal.specs.declared.Refusal.TheVariants.{ListTooShort, OutOfPlace, ShelfTooShort}
use Rattle.rules.proofs.Keeping.{holds}
use Rattle.rules.proofs.Reasons.{reason_tested, why-after}
use Rattle.rules.proofs.Upheld.{runs_hold}
use Rattle.rules.specs.Calls.{pick, pick_tests, told_by, why_not_post, why_not_radius, why_not_turn, written_by, Spared}
use Rattle.rules.specs.Laws.{Lawful}
use Rattle.rules.specs.Limits.{Judged, needed}
use Rattle.rules.specs.Picking.{grain_by, pick_among, pick_from, taken, used, Taken}
use Rattle.rules.specs.Picking as picking
use Rattle.rules.specs.Promises.{Answered, Fits, Story, next, refusal, story, why}
use Rattle.rules.specs.Runs.{Event, Opened, Reached, SettingUp, Stage}
use Rattle.rules.specs.Runs as event
use Rattle.rules.specs.Views.{Settings, View}
use Rattle.rules.specs.Words.{after}
use Rattle.rules.specs.declared.picked.Grain.{Grain}
use Rattle.rules.specs.declared.place.Place.{Place}
use Rattle.term.specs.Formulas.{Rule}
use Rattle.desk.specs.Accounts.{Kept, Led, PickKept, RoomKept, begun_with, heard}
use Rattle.desk.specs.Asks.{answer_to, blank, labelled, performed, spare, stage_after}
use Rattle.desk.specs.declared.ask.Ask.{Ask}
use Rattle.desk.specs.declared.ask.Ask.TheVariants.{Radius, Open, Post, Turn, Pick, Stray}

-- what is told by a call, and by what was heard of it
radius-heard : {P : Type 0} (places g : ℕ) (o : Option Refusal) (t : Story P)
    → next (event.Radius g (after o (Ok tt))) t ≡ heard places (performed (after o (Ok tt))) (Radius g) t
radius-heard places g None t = refl
radius-heard places g (Some e) t = refl

post_heard : {P : Type 0} (places : ℕ) (p : P) (d : ℕ) (o : Option Refusal) (t : Story P)
    → next (event.Post p d (after o (Ok tt))) t ≡ heard places (performed (after o (Ok tt))) (Post p d) t
post_heard places p d None t = refl
post_heard places p d (Some e) t = refl

turn_heard : {P : Type 0} (places d : ℕ) (o : Option Refusal) (t : Story P)
    → next (event.Turn d (after o (Ok tt))) t ≡ heard places (performed (after o (Ok tt))) (Turn d) t
turn_heard places d None t = refl
turn_heard places d (Some e) t = refl

pick-heard : {P : Type 0} (places : ℕ) (r : Result (Option Label) Refusal) (t : Story P) → t ≡ heard places r Pick t
pick-heard places (Ok l) t = refl
pick-heard places (Err e) t = refl

pub begin_led : {P : Type 0} (dist : Distance P) (counts : Rule) (s : Settings) → Judged s
    → Led dist counts (SettingUp (record { settings = s; radii = 0 ∷ [] })) (begun_with s)
begin_led dist counts s judged = record {
  events = event.Begin s ∷ [];
  run = event.begun s judged refl;
  tells = refl;
}

module _ {P : Type 0} (dist : Distance P) (counts : Rule) where
  pub led_on : (places : ℕ) (stage : Stage P) (t : Story P) (a : Ask P) → Led dist counts stage t
      → Led dist counts (stage_after dist counts places stage a) (heard places (answer_to dist counts stage a) a t)
  led_on places (SettingUp u) t (Radius g) l = record {
    events = event.Radius g (after (why_not_radius u g) (Ok tt)) ∷ l.events;
    run = event.tried g l.run (record { answer = refl; left = refl });
    tells =
        ap (next (event.Radius g (after (why_not_radius u g) (Ok tt)))) l.tells
        ∙ radius-heard places g (why_not_radius u g) t;
  }
  led_on places (SettingUp u) t Open l = record {
    events = event.Open places ∷ l.events;
    run = event.opened places l.run refl;
    tells = ap (next (event.Open places)) l.tells;
  }
  led_on places (SettingUp u) t (Post p d) l = l
  led_on places (SettingUp u) t (Turn d) l = l
  led_on places (SettingUp u) t Pick l = l
  led_on places (SettingUp u) t Stray l = l
  led_on places (Opened b) t (Radius g) l = l
  led_on places (Opened b) t Open l = l
  led_on places (Opened b) t (Post p d) l = record {
    events = event.Post p d (after (why_not_post b d) (Ok tt)) ∷ l.events;
    run = event.posted p d l.run (record { answer = refl; left = refl });
    tells =
        ap (next (event.Post p d (after (why_not_post b d) (Ok tt)))) l.tells
        ∙ post_heard places p d (why_not_post b d) t;
  }
  led_on places (Opened b) t (Turn d) l = record {
    events = event.Turn d (after (why_not_turn b d) (Ok tt)) ∷ l.events;
    run = event.turned d l.run (record { answer = refl; left = refl });
    tells =
        ap (next (event.Turn d (after (why_not_turn b d) (Ok tt)))) l.tells
        ∙ turn_heard places d (why_not_turn b d) t;
  }
  led_on places (Opened b) t Pick l = record {
    events = l.events;
    run = l.run;
    tells = l.tells ∙ pick-heard places (labelled (pick dist counts b blank spare)) t;
  }
  led_on places (Opened b) t Stray l = l

-- the refusal of a call is that of its answer
performed-why : (r : Result (Unit {0}) Refusal) (e : Refusal) → performed r ≡ Err e → why r ≡ Some e
performed-why (Ok u) e q = cc
performed-why (Err d) e q = cc

labelled-why : {P : Type 0} (p : Result (picking.Pick P) Refusal) (e : Refusal) → labelled p ≡ Err e
    → why (told_by p) ≡ Some e
labelled-why (Ok p) e q = cc
labelled-why (Err d) e q = cc

spared_same : {P : Type 0} (p : Result (picking.Pick P) Refusal) (work : List ℕ) → Spared p work work
spared_same (Ok p) work = tt
spared_same (Err e) work = refl

-- the lists that a pick is lent suffice for every book
among_listed : {P : Type 0} (dist : Distance P) (s : Settings) (t : Taken P) (grain : Grain) (xs : List (Place P))
    → why (pick_among dist s t grain xs) ≡ Some ListTooShort → ⊥
among_listed dist s t grain [] e = cc
among_listed dist s t grain (x ∷ xs) e = cc

from_listed : {P : Type 0} (dist : Distance P) (counts : Rule) (b : View P) (o : Option (Taken P))
    → why (pick_from dist counts b o) ≡ Some ListTooShort → ⊥
from_listed dist counts b None e = cc
from_listed dist counts b (Some t) e =
    let grain = grain_by counts b.posts b.day t.row.lost in
    among_listed dist b.settings t grain (used grain t.row) e

pub lists_suffice : {P : Type 0} (dist : Distance P) (counts : Rule) (b : View P) → Judged b.settings
    → why (pick dist counts b blank spare) ≡ Some ListTooShort → ⊥
lists_suffice dist counts b judged e =
    elim (why-after _ (pick_from dist counts b (taken dist b)) ListTooShort e) [
      | inl h ↦ elim (reason_tested (pick_tests b blank spare) ListTooShort h) [
        | inl k ↦ let f = k.1 in cc
        | inr k ↦ elim k [
          | inl l ↦ let f = l.0 in grind (arith, nat_tests)
          | inr l ↦ elim l [
            | inl m ↦ let f = m.1 in cc
            | inr m ↦ m
          ]
        ]
      ]
      | inr h ↦ from_listed dist counts b (taken dist b) h
    ]

pick_keeps : {P : Type 0} (dist : Distance P) (counts : Rule) (t : Story P) (p : Result (picking.Pick P) Refusal)
    → Answered dist counts t (told_by p) (written_by p blank) → (why p ≡ Some ListTooShort → ⊥)
    → PickKept dist counts t (labelled p)
pick_keeps dist counts t (Ok p) a listed = a
pick_keeps dist counts t (Err e) a listed = inr (a, λ q. listed (ap Some q))

module _ {P : Type 0} (dist : Distance P) (metric : Metric dist) (counts : Rule) (law : Lawful counts) where
  pub led_fits : (stage : Stage P) (t : Story P) → Led dist counts stage t → Fits stage
  led_fits stage t l = (runs_hold P dist metric counts law l.events stage l.run).1

  -- room, from that of the event
  room_from : (e : Event P) (es : List (Event P)) (stage : Stage P) (t : Story P) (r : Result (Option Label) Refusal)
      → Reached dist counts (e ∷ es) stage → story es ≡ t → (r ≡ Err ShelfTooShort → refusal e ≡ Some ShelfTooShort)
      → RoomKept t r
  room_from e es stage t r run is refused enough q =
      let all = runs_hold P dist metric counts law (e ∷ es) stage run in
      all.0.1 (subst (λ u. needed u.settings (length u.radii) ≤ u.places) (sym is) enough) (refused q)

  pick_kept : (b : View P) (t : Story P) → Led dist counts (Opened b) t
      → PickKept dist counts t (labelled (pick dist counts b blank spare))
  pick_kept b t l =
      let p = pick dist counts b blank spare in
      let run = event.picked blank spare l.run (record { answer = refl; written = refl; spared = spared_same p spare }) in
      let all = runs_hold P dist metric counts law _ (Opened b) run in
      let k = holds dist metric counts law l.run in
      let judged : Judged b.settings = subst (λ v. Judged v.settings) (sym k.same) k.judged in
      pick_keeps dist counts t p
      (subst (λ u. Answered dist counts u (told_by p) (written_by p blank)) l.tells all.0.0)
      (lists_suffice dist counts b judged)

  -- what is out of place promises nothing but that
  out_of_place : (t : Story P) (a : Ask P) → Kept dist counts t a (Err OutOfPlace)
  out_of_place t a = record {
    pick = λ q. inl refl;
    room = λ enough q. cc;
  }

  pub led_keeps : (stage : Stage P) (t : Story P) (a : Ask P) → Led dist counts stage t
      → Kept dist counts t a (answer_to dist counts stage a)
  led_keeps (SettingUp u) t (Radius g) l = record {
    pick = λ q. cc;
    room =
        room_from (event.Radius g (after (why_not_radius u g) (Ok tt))) l.events _ t _
        (event.tried g l.run (record { answer = refl; left = refl })) l.tells
        (performed-why (after (why_not_radius u g) (Ok tt)) ShelfTooShort);
  }
  led_keeps (SettingUp u) t Open l = record {
    pick = λ q. cc;
    room = λ enough q. cc;
  }
  led_keeps (SettingUp u) t (Post p d) l = out_of_place t (Post p d)
  led_keeps (SettingUp u) t (Turn d) l = out_of_place t (Turn d)
  led_keeps (SettingUp u) t Pick l = out_of_place t Pick
  led_keeps (SettingUp u) t Stray l = out_of_place t Stray
  led_keeps (Opened b) t (Radius g) l = out_of_place t (Radius g)
  led_keeps (Opened b) t Open l = out_of_place t Open
  led_keeps (Opened b) t (Post p d) l = record {
    pick = λ q. cc;
    room =
        room_from (event.Post p d (after (why_not_post b d) (Ok tt))) l.events _ t _
        (event.posted p d l.run (record { answer = refl; left = refl })) l.tells
        (performed-why (after (why_not_post b d) (Ok tt)) ShelfTooShort);
  }
  led_keeps (Opened b) t (Turn d) l = record {
    pick = λ q. cc;
    room =
        room_from (event.Turn d (after (why_not_turn b d) (Ok tt))) l.events _ t _
        (event.turned d l.run (record { answer = refl; left = refl })) l.tells
        (performed-why (after (why_not_turn b d) (Ok tt)) ShelfTooShort);
  }
  led_keeps (Opened b) t Pick l = record {
    pick = λ q. pick_kept b t l;
    room =
        let p = pick dist counts b blank spare in
        room_from (event.Pick blank spare (told_by p) (written_by p blank)) l.events _ t _
        (event.picked blank spare l.run (record { answer = refl; written = refl; spared = spared_same p spare }))
        l.tells (labelled-why p ShelfTooShort);
  }
  led_keeps (Opened b) t Stray l = out_of_place t Stray
