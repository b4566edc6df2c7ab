-- The runs of a book: what can happen, and where it leads. Each step is tied by its call's own rule.
use Rattle.std.specs.Prelude.{ℕ, List, [], ◌∷◌, Result}
use Rattle.cover.specs.Distances.{Distance}
use Rattle.refusal.specs.declared.Refusal.{Refusal}
use Rattle.term.specs.Formulas.{Rule}
use Rattle.rules.specs.Calls.{BeginRule, RadiusRule, OpenRule, PostRule, TurnRule, FindRule, HandOutRule, PickRule}
use Rattle.rules.specs.Limits.{Judged}
use Rattle.rules.specs.Views.{Settings, Setup, View}
use Rattle.rules.specs.declared.picked.Picked.{Picked}

-- What happens to a book: each call with what it is given and what it answers. A pick comes with the answer list and
-- the work list that it is lent, and with the answer list as it is at the return.
pub data Event (P : Type 0) : Type 0 where
  Begin : Settings → Event P
  Radius : ℕ → Result (Unit {0}) Refusal → Event P
  Open : ℕ → Event P
  Post : P → ℕ → Result (Unit {0}) Refusal → Event P
  Turn : ℕ → Result (Unit {0}) Refusal → Event P
  Find : ℕ → Result ℕ Refusal → Event P
  HandOut : ℕ → Result P Refusal → Event P
  Pick : List ℕ → List ℕ → Result Picked Refusal → List ℕ → Event P

-- a book that is being set up, or an open one with its shelf
pub data Stage (P : Type 0) : Type 0 where
  SettingUp : Setup → Stage P
  Opened : View P → Stage P

-- The events of a run, newest first, and the stage that it has reached.
pub data Reached {P : Type 0} (dist : Distance P) (counts : Rule) : List (Event P) → Stage P → Type 0 where
  begun : {u : Setup} (s : Settings) → Judged s → BeginRule s u → Reached dist counts (Begin s ∷ []) (SettingUp u)
  tried : {es : List (Event P)} {u u' : Setup} {r : Result (Unit {0}) Refusal} (g : ℕ)
      → Reached dist counts es (SettingUp u) → RadiusRule u g r u' → Reached dist counts (Radius g r ∷ es) (SettingUp u')
  opened : {es : List (Event P)} {u : Setup} {b : View P} (places : ℕ)
      → Reached dist counts es (SettingUp u) → OpenRule u places b → Reached dist counts (Open places ∷ es) (Opened b)
  posted : {es : List (Event P)} {b b' : View P} {r : Result (Unit {0}) Refusal} (p : P) (d : ℕ)
      → Reached dist counts es (Opened b) → PostRule dist counts b p d r b' → Reached dist counts (Post p d r ∷ es) (Opened b')
  turned : {es : List (Event P)} {b b' : View P} {r : Result (Unit {0}) Refusal} (d : ℕ)
      → Reached dist counts es (Opened b) → TurnRule counts b d r b' → Reached dist counts (Turn d r ∷ es) (Opened b')
  found : {es : List (Event P)} {b : View P} {r : Result ℕ Refusal} (a : ℕ)
      → Reached dist counts es (Opened b) → FindRule b a r → Reached dist counts (Find a r ∷ es) (Opened b)
  handed_out : {es : List (Event P)} {b : View P} {r : Result P Refusal} (at : ℕ)
      → Reached dist counts es (Opened b) → HandOutRule b at r → Reached dist counts (HandOut at r ∷ es) (Opened b)
  picked : {es : List (Event P)} {b : View P} {r : Result Picked Refusal} {answers' work' : List ℕ} (answers work : List ℕ)
      → Reached dist counts es (Opened b) → PickRule dist counts b answers work r answers' work'
      → Reached dist counts (Pick answers work r answers' ∷ es) (Opened b)
