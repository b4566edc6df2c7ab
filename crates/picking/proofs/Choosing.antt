-- The trial over the representatives of one radius.
use Rattle.std.proofs.Common.{◌≡◌, ℕ, ◌+◌, ◌<◌, ◌≤◌, Bool, true, false, cond, ◌||◌, leb, List, [], ◌∷◌, ◌++◌, length, get_or, take, drop, set, sym, refl, ap, ◌∙◌, subst, append_assoc, append-nil, arith, length-append, length-set}
use Rattle.std.specs.List.{All, AllByRecursion as Every, list_any}
use Rattle.std.proofs.lemmas.List.Elements.{All-from_recursion, All-push, recursion_from_All}
use Rattle.std.proofs.lemmas.List.{at_drop_all, at_drop_more, drop_more, length_push, length-take-le, take_more_set}
use Rattle.std.proofs.lemmas.Bool.{le-leb, lt-leb}
use Rattle.packed.specs.Lists.{cut}
use Rattle.rules.specs.Picking.{any_within, choose}
use Rattle.cover.specs.Distances.{Distance}
use Rattle.rules.specs.declared.place.Place.{Place}
use Rattle.picking.specs.Trials.{gathered}

-- x stands at i
cut_one : {X : Type 0} (xs : List X) (i : ℕ) (x : X) → i < length xs → x ≡ get_or xs i x → cut i 1 xs ≡ x ∷ []
cut_one xs i x h is = ap (take 1) (drop_more xs i x h) ∙ ap (λ y. y ∷ []) (sym is)

gathered_push : {X : Type 0} (is : List ℕ) (i : ℕ) (xs : List X) → gathered (is ++ (i ∷ [])) xs ≡ gathered is xs ++ cut i 1 xs
gathered_push [] i xs = append-nil (cut i 1 xs)
gathered_push (j ∷ js) i xs =
    ap (λ ys. cut j 1 xs ++ ys) (gathered_push js i xs) ∙ sym (append_assoc (cut j 1 xs) (gathered js xs) (cut i 1 xs))

length-gathered : {X : Type 0} (is : List ℕ) (xs : List X) → Every (λ i. i < length xs) is → length (gathered is xs) ≡ length is
length-gathered [] xs h = refl
length-gathered (i ∷ is) [] h = let low = h.0 in let z : ⊥ = omega arith in absurd z
length-gathered (i ∷ is) (x ∷ xs) h =
    let one : length (cut i 1 (x ∷ xs)) ≡ 1 = ap (λ ys. length (take 1 ys)) (drop_more (x ∷ xs) i x h.0) in
    let ih = length-gathered is (x ∷ xs) h.1 in
    length-append (cut i 1 (x ∷ xs)) (gathered is (x ∷ xs)) ∙ omega arith

module _ {P : Type 0} (dist : Distance P) (r : ℕ) where
  -- a search among those at some indices, which reads y where there is none
  pub near_any : (is : List ℕ) (xs : List (Place P)) (x y : Place P) → Every (λ i. i < length xs) is
      → list_any (λ i. leb (dist (get_or xs i y).piece x.piece) r) is ≡ any_within dist r (gathered is xs) x
  near_any [] xs x y h = refl
  near_any (i ∷ is) xs x y h =
      ap (λ b. leb (dist (get_or xs i y).piece x.piece) r || b) (near_any is xs x y h.1)
      ∙ sym (ap (λ ys. any_within dist r (take 1 ys ++ gathered is xs) x) (drop_more xs i y h.0))

  -- what is chosen stays
  choose_grows : (xs chosen : List (Place P)) → length chosen ≤ length (choose dist r chosen xs)
  choose_grows [] chosen = omega arith
  choose_grows (x ∷ xs) chosen =
      elim (any_within dist r chosen x) as (λ b. length chosen ≤ length (choose dist r (cond b chosen (chosen ++ (x ∷ []))) xs)) [
        | true ↦ choose_grows xs chosen
        | false ↦ omega (arith, choose_grows xs (chosen ++ (x ∷ [])), length_push chosen x)
      ]

  -- The trial has come to i: the choice from here is the choice from the start, and the indices of those chosen,
  -- at most k, are the first `count` of `chosen`.
  pub record Trying (k : ℕ) (xs : List (Place P)) (chosen : List ℕ) (count i : ℕ) : Type 0 where
    pub model : choose dist r (gathered (take count chosen) xs) (drop i xs) ≡ choose dist r [] xs
    pub inside : All (λ n. n < length xs) (take count chosen)
    pub few : count ≤ k
    pub room : length chosen ≡ 12

  trying_step : (k : ℕ) (xs : List (Place P)) (chosen : List ℕ) (count i : ℕ) (x : Place P) (b : Bool) → Trying k xs chosen count i
      → i < length xs → x ≡ get_or xs i x → b ≡ any_within dist r (gathered (take count chosen) xs) x
      → choose dist r (cond b (gathered (take count chosen) xs) (gathered (take count chosen) xs ++ (x ∷ []))) (drop (i + 1) xs) ≡ choose dist r [] xs
  trying_step k xs chosen count i x b t h is e =
      let cs = gathered (take count chosen) xs in
      ap (λ a. choose dist r (cond a cs (cs ++ (x ∷ []))) (drop (i + 1) xs)) e
      ∙ ap (λ y. choose dist r cs (y ∷ drop (i + 1) xs)) is
      ∙ sym (at_drop_more (choose dist r cs) xs i x h)
      ∙ t.model

  pub trying_start : (k : ℕ) (xs : List (Place P)) (chosen : List ℕ) → length chosen ≡ 12 → Trying k xs chosen 0 0
  trying_start k xs chosen l = record { model = refl; inside = All-from_recursion (λ n. n < length xs) [] tt; few = omega arith; room = l }

  -- one of the chosen is near
  pub trying_near : (k : ℕ) (xs : List (Place P)) (chosen : List ℕ) (count i : ℕ) (x : Place P) → Trying k xs chosen count i
      → i < length xs → x ≡ get_or xs i x → true ≡ any_within dist r (gathered (take count chosen) xs) x → Trying k xs chosen count (i + 1)
  trying_near k xs chosen count i x t h is e =
      record { model = trying_step k xs chosen count i x true t h is e; inside = t.inside; few = t.few; room = t.room }

  -- none is: it is chosen too
  pub trying_new : (k : ℕ) (xs : List (Place P)) (chosen : List ℕ) (count i : ℕ) (x : Place P) → Trying k xs chosen count i
      → i < length xs → x ≡ get_or xs i x → false ≡ any_within dist r (gathered (take count chosen) xs) x → count < k → k ≤ 12
      → Trying k xs (set chosen count i) (count + 1) (i + 1)
  trying_new k xs chosen count i x t h is e less small =
      let room = t.room in
      let front : take (count + 1) (set chosen count i) ≡ take count chosen ++ (i ∷ []) = take_more_set chosen count i (omega arith) in
      record {
        model =
            ap (λ js. choose dist r (gathered js xs) (drop (i + 1) xs)) front
            ∙ ap (λ cs. choose dist r cs (drop (i + 1) xs)) (gathered_push (take count chosen) i xs ∙ ap (λ ys. gathered (take count chosen) xs ++ ys) (cut_one xs i x h is))
            ∙ trying_step k xs chosen count i x false t h is e;
        inside = subst (All (λ n. n < length xs)) (sym front) (All-push (λ n. n < length xs) (take count chosen) i t.inside h);
        few = omega arith;
        room = length-set chosen count i ∙ room;
      }

  length_chosen : (k : ℕ) (xs : List (Place P)) (chosen : List ℕ) (count i : ℕ) → Trying k xs chosen count i → k ≤ 12
      → length (gathered (take count chosen) xs) ≡ count
  length_chosen k xs chosen count i t small =
      let room = t.room in
      let few = t.few in
      length-gathered (take count chosen) xs (recursion_from_All (λ n. n < length xs) (take count chosen) t.inside) ∙ length-take-le count chosen (omega arith)

  -- none is, and k are chosen already: in the end more than k are
  pub trying_full : (k : ℕ) (xs : List (Place P)) (chosen : List ℕ) (count i : ℕ) (x : Place P) → Trying k xs chosen count i
      → i < length xs → x ≡ get_or xs i x → false ≡ any_within dist r (gathered (take count chosen) xs) x → count ≡ k → k ≤ 12
      → leb (length (choose dist r [] xs)) k ≡ false
  trying_full k xs chosen count i x t h is e full small =
      let cs = gathered (take count chosen) xs in
      let long = length_chosen k xs chosen count i t small in
      let one = length_push cs x in
      let grown = choose_grows (drop (i + 1) xs) (cs ++ (x ∷ [])) in
      let all = ap length (trying_step k xs chosen count i x false t h is e) in
      lt-leb (length (choose dist r [] xs)) k (omega arith)

  -- the list is gone through
  pub trying_ends : (k : ℕ) (xs : List (Place P)) (chosen : List ℕ) (count i : ℕ) → Trying k xs chosen count i → length xs ≤ i → k ≤ 12
      → leb (length (choose dist r [] xs)) k ≡ true
  trying_ends k xs chosen count i t h small =
      let long = length_chosen k xs chosen count i t small in
      let few = t.few in
      let all : length (choose dist r [] xs) ≡ length (gathered (take count chosen) xs) =
      ap length (sym t.model ∙ at_drop_all (choose dist r (gathered (take count chosen) xs)) xs i h) in
      le-leb (length (choose dist r [] xs)) k (omega arith)
