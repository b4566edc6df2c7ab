-- Fine entries, as the code changes their two lists.
use Rattle.std.proofs.Common.{◌≡◌, ℕ, zero, suc, Bool, cond, List, [], ◌∷◌, ◌++◌, length, get_or, set, sym, refl, ap, ◌∙◌, arith}
use Rattle.std.specs.List.{remove}
use Rattle.rules.specs.Steps.{taken_by}
use Rattle.rules.specs.Views.{Entry}
use Rattle.rules.specs.Words.{change_first}
use Rattle.rules.specs.declared.place.Place.{Place}
use Rattle.row.specs.Seen.{entries}
use Rattle.row.proofs.Changing.{FirstAt, NonePasses, behind}

pub length-entries : {P : Type 0} (xs ys : List (Place P)) → length xs ≡ length ys → length (entries xs ys) ≡ length ys
length-entries [] [] h = refl
length-entries [] (y ∷ ys) h = absurd (omega arith)
length-entries (x ∷ xs) [] h = absurd (omega arith)
length-entries (x ∷ xs) (y ∷ ys) h = ap suc (length-entries xs ys (omega arith))

pub entries_push : {P : Type 0} (xs ys : List (Place P)) (a b : Place P) → length xs ≡ length ys
    → entries (xs ++ (a ∷ [])) (ys ++ (b ∷ [])) ≡ entries xs ys ++ (record { first = a; latest = b } ∷ [])
entries_push [] [] a b h = refl
entries_push [] (y ∷ ys) a b h = absurd (omega arith)
entries_push (x ∷ xs) [] a b h = absurd (omega arith)
entries_push (x ∷ xs) (y ∷ ys) a b h = ap (λ es. record { first = x; latest = y } ∷ es) (entries_push xs ys a b (omega arith))

pub entries-removed : {P : Type 0} (xs ys : List (Place P)) (i : ℕ) → length xs ≡ length ys → entries (remove xs i) (remove ys i) ≡ remove (entries xs ys) i
entries-removed [] [] zero h = refl
entries-removed [] [] (suc i) h = refl
entries-removed [] (y ∷ ys) i h = absurd (omega arith)
entries-removed (x ∷ xs) [] i h = absurd (omega arith)
entries-removed (x ∷ xs) (y ∷ ys) zero h = refl
entries-removed (x ∷ xs) (y ∷ ys) (suc i) h = ap (λ es. record { first = x; latest = y } ∷ es) (entries-removed xs ys i (omega arith))

-- the latest piece of the entry at i
pub latest_at : {P : Type 0} (xs ys : List (Place P)) (i : ℕ) (d : Entry P) → length xs ≡ length ys → (get_or (entries xs ys) i d).latest ≡ get_or ys i d.latest
latest_at [] [] i d h = refl
latest_at [] (y ∷ ys) i d h = absurd (omega arith)
latest_at (x ∷ xs) [] i d h = absurd (omega arith)
latest_at (x ∷ xs) (y ∷ ys) zero d h = refl
latest_at (x ∷ xs) (y ∷ ys) (suc i) d h = latest_at xs ys i d (omega arith)

-- the first piece of the entry at i
first_at : {P : Type 0} (xs ys : List (Place P)) (i : ℕ) (d : Entry P) → length xs ≡ length ys → (get_or (entries xs ys) i d).first ≡ get_or xs i d.first
first_at [] [] i d h = refl
first_at [] (y ∷ ys) i d h = absurd (omega arith)
first_at (x ∷ xs) [] i d h = absurd (omega arith)
first_at (x ∷ xs) (y ∷ ys) zero d h = refl
first_at (x ∷ xs) (y ∷ ys) (suc i) d h = first_at xs ys i d (omega arith)

-- the first entry by its first piece
pub first_entry : {P : Type 0} (test : Place P → Bool) (xs ys : List (Place P)) (i : ℕ) → length xs ≡ length ys
    → FirstAt test xs i → FirstAt (λ e. test e.first) (entries xs ys) i
first_entry test xs ys i h f =
    let long = length-entries xs ys h in
    let low = f.within in
    record {
      within = omega arith;
      passes = λ d. ap test (first_at xs ys i d h) ∙ f.passes d.first;
      before = λ k d l. ap test (first_at xs ys k d h) ∙ f.before k d.first l;
    }

pub no_entry : {P : Type 0} (test : Place P → Bool) (xs ys : List (Place P)) → length xs ≡ length ys
    → NonePasses test xs → NonePasses (λ e. test e.first) (entries xs ys)
no_entry test xs ys h none k d l =
    let long = length-entries xs ys h in
    ap test (first_at xs ys k d h) ∙ none k d.first (omega arith)

-- it takes a piece
pub entry-taken : {P : Type 0} (test : Place P → Bool) (z : Place P) (xs ys : List (Place P)) (i : ℕ) → length xs ≡ length ys → FirstAt test xs i
    → entries xs (set ys i z) ≡ change_first (λ e. test e.first) (taken_by z) (entries xs ys)
entry-taken test z [] ys i h f = absurd (omega (arith, f.within))
entry-taken test z (x ∷ xs) [] i h f = absurd (omega arith)
entry-taken {P} test z (x ∷ xs) (y ∷ ys) zero h f =
    let e : Entry P = record { first = x; latest = y } in
    ap (λ b. cond b (taken_by z e ∷ entries xs ys) (e ∷ change_first (λ u. test u.first) (taken_by z) (entries xs ys))) (sym (f.passes x))
entry-taken {P} test z (x ∷ xs) (y ∷ ys) (suc i) h f =
    let e : Entry P = record { first = x; latest = y } in
    ap (λ es. e ∷ es) (entry-taken test z xs ys i (omega arith) (behind test x xs i f))
    ∙ ap (λ b. cond b (taken_by z e ∷ entries xs ys) (e ∷ change_first (λ u. test u.first) (taken_by z) (entries xs ys))) (sym (f.before 0 x (omega arith)))
