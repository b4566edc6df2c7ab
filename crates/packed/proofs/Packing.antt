-- A loop that moves what is marked to the front.
use Rattle.std.proofs.Common.{◌≡◌, ℕ, zero, suc, ◌+◌, ◌-◌, ◌<◌, ◌≤◌, Bool, true, false, cond, List, [], ◌∷◌, ◌++◌, map, length, get_or, take, drop, set, filter, sym, refl, ap, ◌∙◌, append-nil, arith, length-drop, length-set}
use Rattle.std.proofs.lemmas.List.{drop_at, drop_more, drop-set-lt, length-take-le, take-append-le, take_more, take_more_set}
use borrow.Rule.Slice.PartMut.{put_mid}
use Rattle.packed.specs.Lists.{cut, picked}

-- one more element at the end
picked_push : {X : Type 0} (bs : List Bool) (xs : List X) (x : X) → length xs < length bs
    → picked bs (xs ++ (x ∷ [])) ≡ picked bs xs ++ cond (get_or bs (length xs) false) (x ∷ []) []
picked_push [] xs x h = let z : ⊥ = omega arith in absurd z
picked_push (true ∷ bs) [] x h = refl
picked_push (false ∷ bs) [] x h = refl
picked_push (true ∷ bs) (y ∷ xs) x h = ap (λ zs. y ∷ zs) (picked_push bs xs x (omega arith))
picked_push (false ∷ bs) (y ∷ xs) x h = picked_push bs xs x (omega arith)

-- ys began as xs: what is marked in the first i of xs stands in the first m of ys, and from i on ys is as it was
pub record Packing {X : Type 0} (bs : List Bool) (xs ys : List X) (m i : ℕ) : Type 0 where
  pub front : take m ys ≡ picked bs (take i xs)
  pub rest : drop i ys ≡ drop i xs
  pub behind : m ≤ i
  pub long : length ys ≡ length xs

-- what stands at i and after it
pub behind_at : {X : Type 0} (xs ys : List X) (i : ℕ) (x : X) → i < length ys → length ys ≡ length xs → drop i ys ≡ drop i xs
    → (get_or ys i x ≡ get_or xs i x) × (drop (i + 1) ys ≡ drop (i + 1) xs)
behind_at xs ys i x h l e =
    let a : drop i ys ≡ get_or ys i x ∷ drop (i + 1) ys = drop_more ys i x h in
    let b : drop i xs ≡ get_or xs i x ∷ drop (i + 1) xs = drop_more xs i x (omega arith) in
    (cc, cc)

-- what is marked in one more of xs, where x stands at i in ys
marked_more : {X : Type 0} (bs : List Bool) (xs ys : List X) (m i : ℕ) (x : X) → Packing bs xs ys m i → i < length ys → length ys ≤ length bs
    → x ≡ get_or ys i x
    → picked bs (take (i + 1) xs) ≡ picked bs (take i xs) ++ cond (get_or bs i false) (x ∷ []) []
marked_more bs xs ys m i x p h l is =
    let len = p.long in
    let long : length (take i xs) ≡ i = length-take-le i xs (omega arith) in
    let here : get_or xs i x ≡ x = sym (is ∙ (behind_at xs ys i x h len p.rest).0) in
    let push = picked_push bs (take i xs) x (omega arith) in
    ap (picked bs) (take_more xs i x (omega arith) ∙ ap (λ y. take i xs ++ (y ∷ [])) here)
    ∙ push
    ∙ ap (λ n. picked bs (take i xs) ++ cond (get_or bs n false) (x ∷ []) []) long

-- x, read at i, is marked and moved to m
pub packing_more_set : {X : Type 0} (bs : List Bool) (xs ys : List X) (m i : ℕ) (x : X)
    → Packing bs xs ys m i → i < length ys → length ys ≤ length bs → get_or bs i false ≡ true → x ≡ get_or ys i x
    → Packing bs xs (set ys m x) (m + 1) (i + 1)
packing_more_set bs xs ys m i x p h l t is =
    let low = p.behind in
    let more = marked_more bs xs ys m i x p h l is in
    record {
      front =
          take_more_set ys m x (omega arith)
          ∙ ap (λ zs. zs ++ (x ∷ [])) p.front
          ∙ ap (λ b. picked bs (take i xs) ++ cond b (x ∷ []) []) (sym t)
          ∙ sym more;
      rest = drop-set-lt (i + 1) ys m x (omega arith) ∙ (behind_at xs ys i x h p.long p.rest).1;
      behind = omega arith;
      long = length-set ys m x ∙ p.long;
    }

-- an element stands at each index
at_index : {X : Type 0} (xs : List X) (i : ℕ) → i < length xs → (x : X) × (x ≡ get_or xs i x)
at_index [] i h = absurd (omega arith)
at_index (x ∷ xs) zero h = (x, refl)
at_index (x ∷ xs) (suc i) h = at_index xs i (omega arith)

-- what stands at i is not marked
pub packing_more_no : {X : Type 0} (bs : List Bool) (xs ys : List X) (m i : ℕ)
    → Packing bs xs ys m i → i < length ys → length ys ≤ length bs → get_or bs i false ≡ false
    → Packing bs xs ys m (i + 1)
packing_more_no bs xs ys m i p h l t =
    let low = p.behind in
    let x = (at_index ys i h).0 in
    let is = (at_index ys i h).1 in
    let more = marked_more bs xs ys m i x p h l is in
    record {
      front =
          p.front
          ∙ sym (append-nil (picked bs (take i xs)))
          ∙ ap (λ b. picked bs (take i xs) ++ cond b (x ∷ []) []) (sym t)
          ∙ sym more;
      rest = (behind_at xs ys i x h p.long p.rest).1;
      behind = omega arith;
      long = p.long;
    }

-- what the first r places of a part are after the part was handed on
pub cut_put_mid : {X : Type 0} (a k r : ℕ) (xs ys : List X) → a ≤ length xs → r ≤ length ys → take r (drop a (put_mid a k xs ys)) ≡ take r ys
cut_put_mid a k r xs ys h q =
    let n : length (take a xs) ≡ a = length-take-le a xs h in
    rw (drop_at (take a xs) _ a n) (take-append-le r ys _ q)

pub past_start : (a n : ℕ) → (a + n) - a ≡ n
past_start a n = omega arith

-- marked by a test
pub picked_by : {X : Type 0} (f : X → Bool) (bs : List Bool) (xs : List X) → take (length xs) bs ≡ map f xs → picked bs xs ≡ filter f xs
picked_by f bs [] e = refl
picked_by f [] (x ∷ xs) e = let z : ◌≡◌ {A = ℕ} 0 1 = cc in let no : ⊥ = omega arith in absurd no
picked_by f (b ∷ bs) (x ∷ xs) e =
    let here : b ≡ f x = cc in
    let rest : take (length xs) bs ≡ map f xs = cc in
    ap (λ c. cond c (x ∷ picked bs xs) (picked bs xs)) here
    ∙ ap (λ ys. cond (f x) (x ∷ ys) ys) (picked_by f bs xs rest)

pub length_cut : {X : Type 0} (at len : ℕ) (xs : List X) → at + len ≤ length xs → length (cut at len xs) ≡ len
length_cut at len xs h = length-take-le len (drop at xs) (simp length-drop (omega arith))
