-- Fine entries as two lists.
use Rattle.std.proofs.Common.{◌≡◌, ℕ, suc, ◌+◌, ◌≤◌, Bool, true, false, cond, ◌&&◌, List, [], ◌∷◌, map, length, take, filter, refl, ap, ◌∙◌, arith}
use Rattle.std.specs.List.{list_all}
use Rattle.packed.specs.Lists.{cut, picked}
use Rattle.packed.proofs.Alls.{kept_all}
use Rattle.packed.proofs.Packing.{length_cut}
use Rattle.rules.specs.declared.place.Place.{Place}
use Rattle.row.specs.Seen.{entries}

pub length-picked : {X Y : Type 0} (bs : List Bool) (xs : List X) (ys : List Y) → length xs ≡ length ys → length (picked bs xs) ≡ length (picked bs ys)
length-picked bs [] [] h = refl
length-picked bs [] (y ∷ ys) h = absurd (omega arith)
length-picked bs (x ∷ xs) [] h = absurd (omega arith)
length-picked [] (x ∷ xs) (y ∷ ys) h = refl
length-picked (true ∷ bs) (x ∷ xs) (y ∷ ys) h = ap suc (length-picked bs xs ys (omega arith))
length-picked (false ∷ bs) (x ∷ xs) (y ∷ ys) h = length-picked bs xs ys (omega arith)

-- where every latest piece passes
all-latest : {P : Type 0} (f : Place P → Bool) (xs ys : List (Place P)) → length xs ≡ length ys
    → list_all f ys ≡ list_all (λ e. f e.latest) (entries xs ys)
all-latest f [] [] h = refl
all-latest f [] (y ∷ ys) h = absurd (omega arith)
all-latest f (x ∷ xs) [] h = absurd (omega arith)
all-latest f (x ∷ xs) (y ∷ ys) h = ap (λ b. f y && b) (all-latest f xs ys (omega arith))

-- all entries of a part are kept
pub entries-all : {P : Type 0} (f : Place P → Bool) (a b n : ℕ) (xs : List (Place P)) → a + n ≤ b → b + n ≤ length xs
    → true ≡ list_all f (cut b n xs)
    → entries (cut a n xs) (cut b n xs) ≡ filter (λ e. f e.latest) (entries (cut a n xs) (cut b n xs))
entries-all f a b n xs apart room pass =
    let la : length (cut a n xs) ≡ n = length_cut a n xs (omega arith) in
    let lb : length (cut b n xs) ≡ n = length_cut b n xs (omega arith) in
    kept_all (λ e. f e.latest) (entries (cut a n xs) (cut b n xs)) (pass ∙ all-latest f (cut a n xs) (cut b n xs) (omega arith))

-- what is marked by the latest pieces
pub entries_kept : {P : Type 0} (f : Place P → Bool) (bs : List Bool) (xs ys : List (Place P)) → length xs ≡ length ys
    → take (length ys) bs ≡ map f ys
    → entries (picked bs xs) (picked bs ys) ≡ filter (λ e. f e.latest) (entries xs ys)
entries_kept f bs [] [] h e = refl
entries_kept f bs [] (y ∷ ys) h e = absurd (omega arith)
entries_kept f bs (x ∷ xs) [] h e = absurd (omega arith)
entries_kept f [] (x ∷ xs) (y ∷ ys) h e = absurd cc
entries_kept f (true ∷ bs) (x ∷ xs) (y ∷ ys) h e =
    let here : true ≡ f y = cc in
    let rest : take (length ys) bs ≡ map f ys = cc in
    ap (λ es. record { first = x; latest = y } ∷ es) (entries_kept f bs xs ys (omega arith) rest)
    ∙ ap (λ b. cond b (record { first = x; latest = y } ∷ filter (λ e. f e.latest) (entries xs ys)) (filter (λ e. f e.latest) (entries xs ys))) here
entries_kept f (false ∷ bs) (x ∷ xs) (y ∷ ys) h e =
    let here : false ≡ f y = cc in
    let rest : take (length ys) bs ≡ map f ys = cc in
    entries_kept f bs xs ys (omega arith) rest
    ∙ ap (λ b. cond b (record { first = x; latest = y } ∷ filter (λ e. f e.latest) (entries xs ys)) (filter (λ e. f e.latest) (entries xs ys))) here
