-- From what a call did to its rule, and to the run that it extends.
use Rattle.std.proofs.Common.{◌≡◌, ℕ, ◌≤◌, List, ◌∷◌, length, take, Some, None, Ok, Err, sym, ap, ◌∙◌, subst}
use Rattle.cover.specs.Distances.{Distance, Metric}
use Rattle.refusal.specs.declared.Refusal.{Refusal}
use Rattle.refusal.specs.declared.Refusal.TheVariants.{ShelfTooShort}
use Rattle.row.specs.Seen.{judged, seen_rows}
use Rattle.row.specs.declared.kept.Row.{Row}
use Rattle.row.specs.declared.settings.Settings.{Settings}
use Rattle.rules.specs.Calls.{PostRule, TurnRule, posted, short, turned, why_not_post, why_not_turn}
use Rattle.rules.specs.Laws.{Lawful}
use Rattle.rules.specs.Limits.{needed}
use Rattle.picking.proofs.Shelves.{length_seen}
use Rattle.std.proofs.lemmas.List.{length-take-le}
use Rattle.std.proofs.lemmas.Bool.{ltb-false}
use Rattle.rules.specs.Promises.{Fits, Served, story}
use Rattle.rules.specs.Runs.{Event, Opened, Reached}
use Rattle.rules.specs.Views.{View}
use Rattle.rules.specs.Words.{after, leaves}
use Rattle.rules.specs.declared.place.Place.{Place}
use Rattle.rules.proofs.Upheld.{post_fits, runs_hold}
use Rattle.term.specs.Formulas.{Rule}
use Rattle.book.proofs.Refused.{unrefused}

-- a book as seen after a change, by its parts
pub seen-after : {P : Type 0} (s s1 : Settings) (n n1 p pa d da m : ℕ) (rows : List Row) (ys : List (Place P)) (v : View P)
    → s1 ≡ s → n1 ≡ n → pa ≡ p → da ≡ d → length ys ≡ m
    → record { settings = judged s; rows = seen_rows s (take n rows) ys; posts = p; day = d; places = m } ≡ v
    → record { settings = judged s1; rows = seen_rows s1 (take n1 rows) ys; posts = pa; day = da; places = length ys } ≡ v
seen-after s s1 n n1 p pa d da m rows ys v e1 e2 e3 e4 e5 e =
    ap (λ t. record { settings = judged t; rows = seen_rows t (take n1 rows) ys; posts = pa; day = da; places = length ys }) e1
    ∙ ap (λ i. record { settings = judged s; rows = seen_rows s (take i rows) ys; posts = pa; day = da; places = length ys }) e2
    ∙ ap (λ i. record { settings = judged s; rows = seen_rows s (take n rows) ys; posts = i; day = da; places = length ys }) e3
    ∙ ap (λ i. record { settings = judged s; rows = seen_rows s (take n rows) ys; posts = p; day = i; places = length ys }) e4
    ∙ ap (λ i. record { settings = judged s; rows = seen_rows s (take n rows) ys; posts = p; day = d; places = i }) e5
    ∙ e

pub post_refused : {P : Type 0} (dist : Distance P) (counts : Rule) (b : View P) (p : P) (d : ℕ) (e : Refusal)
    → why_not_post b d ≡ Some e → PostRule dist counts b p d (Err e) b
post_refused dist counts b p d e q = record {
  answer = ap (λ o. after o (Ok tt)) (sym q);
  left = ap (λ o. leaves o b (posted dist counts p d b)) (sym q);
}

pub post_performed : {P : Type 0} (dist : Distance P) (counts : Rule) (b b2 : View P) (p : P) (d : ℕ)
    → why_not_post b d ≡ None → b2 ≡ posted dist counts p d b → PostRule dist counts b p d (Ok tt) b2
post_performed dist counts b b2 p d q e = record {
  answer = ap (λ o. after o (Ok tt)) (sym q);
  left = e ∙ ap (λ o. leaves o b (posted dist counts p d b)) (sym q);
}

-- in a run what follows fits
pub post_fitting : {P : Type 0} (dist : Distance P) → Metric dist → (counts : Rule) → Lawful counts → (es : List (Event P)) (b : View P) (p : P) (d : ℕ)
    → why_not_post b d ≡ None → Reached dist counts es (Opened b) → Fits (Opened (posted dist counts p d b))
post_fitting {P} dist metric counts law es b p d q run =
    subst (λ o. Fits (Opened (leaves o b (posted dist counts p d b)))) q (post_fits dist metric counts law p d run)

-- the room that a performed or refused call has
pub served : {P : Type 0} (dist : Distance P) → Metric dist → (counts : Rule) → Lawful counts → (e : Event P) (es : List (Event P)) (b : View P)
    → Reached dist counts (e ∷ es) (Opened b) → Served (story es) e × Fits (Opened b)
served {P} dist metric counts law e es b run =
    let all = runs_hold P dist metric counts law (e ∷ es) (Opened b) run in
    (all.0.1, all.1)

pub turn_refused : {P : Type 0} (counts : Rule) (b : View P) (d : ℕ) (e : Refusal) → why_not_turn b d ≡ Some e → TurnRule counts b d (Err e) b
turn_refused counts b d e q = record {
  answer = ap (λ o. after o (Ok tt)) (sym q);
  left = ap (λ o. leaves o b (turned counts d b)) (sym q);
}

pub turn_performed : {P : Type 0} (counts : Rule) (b b2 : View P) (d : ℕ) → why_not_turn b d ≡ None → b2 ≡ turned counts d b → TurnRule counts b d (Ok tt) b2
turn_performed counts b b2 d q e = record {
  answer = ap (λ o. after o (Ok tt)) (sym q);
  left = e ∙ ap (λ o. leaves o b (turned counts d b)) (sym q);
}

-- a call that is not refused has its places
pub post_room : {P : Type 0} (b : View P) (d : ℕ) → why_not_post b d ≡ None → needed b.settings (length b.rows) ≤ b.places
post_room b d q = ltb-false b.places (needed b.settings (length b.rows)) (unrefused (short b) ShelfTooShort _ q).0

pub turn_room : {P : Type 0} (b : View P) (d : ℕ) → why_not_turn b d ≡ None → needed b.settings (length b.rows) ≤ b.places
turn_room b d q = ltb-false b.places (needed b.settings (length b.rows)) (unrefused (short b) ShelfTooShort _ q).0

-- so many rows are seen as the book has
pub rows_seen : {P : Type 0} (s : Settings) (n : ℕ) (rows : List Row) (xs : List (Place P)) → n ≤ length rows → length (seen_rows s (take n rows) xs) ≡ n
rows_seen s n rows xs h = length_seen s (take n rows) xs ∙ length-take-le n rows h
