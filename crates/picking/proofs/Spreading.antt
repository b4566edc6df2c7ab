-- Centres chosen one after another.
use Rattle.std.proofs.Common.{◌≡◌, ℕ, zero, suc, ◌+◌, ◌-◌, ◌<◌, ◌≤◌, ◌⊎◌, List, [], ◌∷◌, ◌++◌, map, length, get_or, drop, set, sym, refl, ap, ◌∙◌, inl, inr, append_assoc, arith}
use lib.ListN.{length-map}
use Rattle.std.proofs.lemmas.List.{drop_more, drop-set-lt, get_or_default, length_push, map_push, set_at}
use Rattle.std.proofs.lemmas.Bool.{eq-eqb, ne_eqb}
use Rattle.cover.specs.Choices.{farthest_first, greatest, greatest_at, nearest, onward, reach}
use Rattle.cover.proofs.Nearest.{greatest_place}
use Rattle.picking.specs.Centres.{Chosen, lowered}
use Rattle.picking.proofs.Greatest.{greatest-map, greatest_at-map}
use Rattle.picking.proofs.Lowerings.{lowered-nearest}

-- what a search for the farthest says of a work list
abbrev pub Farthest : List ℕ → ℕ × ℕ → Type 0
Farthest ns far = (far.0 ≡ greatest_at (λ d. d) ns) × (far.1 ≡ greatest (λ d. d) ns)

-- The centres so far: the choice from here is the choice from the start, their numbers are written, and the work
-- list has how far each is from its nearest centre.
pub record Going {P : Type 0} (dist : P → P → ℕ) (number : P → ℕ) (k : ℕ) (xs : List P) (old answers work : List ℕ) (count : ℕ) (far : ℕ × ℕ) : Type 0 where
  pub first : P
  pub centres : List P
  pub model : onward dist first xs (k - count) centres ≡ farthest_first dist k xs
  pub counted : length centres ≡ count
  pub some : 1 ≤ count
  pub few : count ≤ k
  pub near : work ≡ map (nearest dist centres) xs
  pub written : answers ≡ map number centres ++ drop count old
  pub long : length work ≡ length xs
  pub within : far.0 < length xs
  pub place : far.0 ≡ greatest_at (nearest dist centres) xs
  pub value : far.1 ≡ reach dist centres xs

module _ {P : Type 0} (dist : P → P → ℕ) where
  onward_more : (x : P) (xs : List P) (n : ℕ) (cs : List P) → (reach dist cs xs ≡ 0 → ⊥)
      → onward dist x xs (suc n) cs ≡ onward dist x xs n (cs ++ (get_or xs (greatest_at (nearest dist cs) xs) x ∷ []))
  onward_more x xs n cs far = rw (ne_eqb (reach dist cs xs) 0 far, onward) refl

  onward_done : (x : P) (xs : List P) (n : ℕ) (cs : List P) → reach dist cs xs ≡ 0 → onward dist x xs n cs ≡ cs
  onward_done x xs zero cs none = refl
  onward_done x xs (suc n) cs none = rw (eq-eqb (reach dist cs xs) 0 none, onward) refl

  -- no distance is above m: neither is a reach
  nearest_small : (m : ℕ) → ((x y : P) → dist x y ≤ m) → (cs : List P) (x : P) → nearest dist cs x ≤ m
  nearest_small m h [] x = omega arith
  nearest_small m h (c ∷ []) x = h c x
  nearest_small m h (c ∷ (d ∷ ds)) x = omega (arith, h c x)

  reach_small : (m : ℕ) → ((x y : P) → dist x y ≤ m) → (cs xs : List P) → reach dist cs xs ≤ m
  reach_small m h cs [] = omega arith
  reach_small m h cs (x ∷ xs) = omega (arith, nearest_small m h cs x, reach_small m h cs xs)

  -- the search over the work list is one over the list
  found : (xs cs : List P) (ns : List ℕ) (far : ℕ × ℕ) → 1 ≤ length xs → ns ≡ map (nearest dist cs) xs → Farthest ns far
      → (far.0 < length xs) × (far.0 ≡ greatest_at (nearest dist cs) xs) × (far.1 ≡ reach dist cs xs)
  found [] cs ns far full near f = let z : ⊥ = omega arith in absurd z
  found (x ∷ xs) cs ns far full near f =
      let at : far.0 ≡ greatest_at (nearest dist cs) (x ∷ xs) =
      f.0 ∙ ap (greatest_at (λ d. d)) near ∙ greatest_at-map (nearest dist cs) (x ∷ xs) in
      let inside = (greatest_place (nearest dist cs) (x ∷ xs) x full).0 in
      (omega arith, at, f.1 ∙ ap (greatest (λ d. d)) near ∙ greatest-map (nearest dist cs) (x ∷ xs))

  -- one more number is written
  written_more : (number : P → ℕ) (old answers : List ℕ) (cs : List P) (count : ℕ) (x : P) → length cs ≡ count → count < length old
      → answers ≡ map number cs ++ drop count old
      → set answers count (number x) ≡ map number (cs ++ (x ∷ [])) ++ drop (count + 1) old
  written_more number old answers cs count x l h e =
      ap (λ ns. set ns count (number x)) (e ∙ ap (λ ns. map number cs ++ ns) (drop_more old count 0 h))
      ∙ set_at (map number cs) (get_or old count 0) (drop (count + 1) old) (number x) count (length-map cs number ∙ l)
      ∙ sym (append_assoc (map number cs) (number x ∷ []) (drop (count + 1) old))
      ∙ ap (λ ns. ns ++ drop (count + 1) old) (sym (map_push number cs x))

  -- x, the first of the list, is the first centre
  pub going_start : (number : P → ℕ) (k : ℕ) (xs : List P) (old work : List ℕ) (far : ℕ × ℕ) (x : P)
      → 1 ≤ k → k ≤ length old → 1 ≤ length xs → x ≡ get_or xs 0 x → work ≡ map (dist x) xs → Farthest work far
      → Going dist number k xs (set old 0 (number x)) (set old 0 (number x)) work 1 far
  going_start number zero xs old work far x some room full is near f = let z : ⊥ = omega arith in absurd z
  going_start number (suc k) [] old work far x some room full is near f = let z : ⊥ = omega arith in absurd z
  going_start number (suc k) (z ∷ zs) [] work far x some room full is near f = let z : ⊥ = omega arith in absurd z
  going_start number (suc k) (z ∷ zs) (o ∷ os) work far x some room full is low f =
      let near : work ≡ map (dist z) (z ∷ zs) = low ∙ ap (λ y. map (dist y) (z ∷ zs)) is in
      let there = found (z ∷ zs) (z ∷ []) work far full near f in
      let less : suc k - 1 ≡ k = omega arith in
      record {
        first = z;
        centres = z ∷ [];
        model = ap (λ n. onward dist z (z ∷ zs) n (z ∷ [])) less;
        counted = refl;
        some = omega arith;
        few = omega arith;
        near = near;
        written = ap (λ y. number y ∷ os) is;
        long = ap length near ∙ length-map (z ∷ zs) (dist z);
        within = there.0;
        place = there.1;
        value = there.2;
      }

  -- c, the farthest, is the next centre
  pub going_more : (number : P → ℕ) (k : ℕ) (xs : List P) (old answers work work' : List ℕ) (count : ℕ) (far far' : ℕ × ℕ) (c : P)
      → Going dist number k xs old answers work count far
      → count < k → (far.1 ≡ 0 → ⊥) → k ≤ length old → c ≡ get_or xs far.0 c → work' ≡ lowered (dist c) xs work → Farthest work' far'
      → Going dist number k xs old (set answers count (number c)) work' (count + 1) far'
  going_more number k xs old answers work work' count far far' c g more some room is low f =
      let cs = g.centres in
      let inside = g.within in
      let counted = g.counted in
      let begun = g.some in
      let near : work' ≡ map (nearest dist (cs ++ (c ∷ []))) xs =
      low ∙ ap (lowered (dist c) xs) g.near ∙ lowered-nearest dist cs c xs (omega arith) in
      let there = found xs (cs ++ (c ∷ [])) work' far' (omega arith) near f in
      let left : k - count ≡ suc (k - (count + 1)) = omega arith in
      let apart : reach dist cs xs ≡ 0 → ⊥ = λ z. some (g.value ∙ z) in
      let here : get_or xs (greatest_at (nearest dist cs) xs) g.first ≡ c =
      ap (λ n. get_or xs n g.first) (sym g.place) ∙ get_or_default xs far.0 g.first c inside ∙ sym is in
      record {
        first = g.first;
        centres = cs ++ (c ∷ []);
        model =
            ap (λ d. onward dist g.first xs (k - (count + 1)) (cs ++ (d ∷ []))) (sym here)
            ∙ sym (onward_more g.first xs (k - (count + 1)) cs apart)
            ∙ ap (λ n. onward dist g.first xs n cs) (sym left)
            ∙ g.model;
        counted = length_push cs c ∙ ap (λ n. n + 1) counted;
        some = omega arith;
        few = omega arith;
        near = near;
        written = written_more number old answers cs count c counted (omega arith) g.written;
        long = ap length near ∙ length-map xs (nearest dist (cs ++ (c ∷ [])));
        within = there.0;
        place = there.1;
        value = there.2;
      }

  -- there are k centres, or all are at 0 from one
  pub going_ends : (number : P → ℕ) (k : ℕ) (xs : List P) (old answers work : List ℕ) (v count : ℕ) (far : ℕ × ℕ)
      → Going dist number k xs (set old 0 v) answers work count far → (k ≤ count) ⊎ (far.1 ≡ 0)
      → Chosen dist number k xs old answers count far.1
  going_ends number k xs old answers work v count far g end =
      let cs = g.centres in
      let all : cs ≡ farthest_first dist k xs =
      elim end [
        | inl full ↦ let none : k - count ≡ 0 = omega (arith, full) in ap (λ n. onward dist g.first xs n cs) (sym none) ∙ g.model
        | inr low ↦
            let none : reach dist cs xs ≡ 0 = sym g.value ∙ low in
            sym (onward_done g.first xs (k - count) cs none) ∙ g.model
      ] in
      record {
        counted = sym g.counted ∙ ap length all;
        reached = g.value ∙ ap (λ ys. reach dist ys xs) all;
        written =
            g.written
            ∙ ap (λ ns. map number cs ++ ns) (drop-set-lt count old 0 v g.some)
            ∙ ap (λ n. map number cs ++ drop n old) (sym g.counted)
            ∙ ap (λ ys. map number ys ++ drop (length ys) old) all;
      }

  -- nor is how far a choice reaches
  pub chosen_small : (m : ℕ) → ((x y : P) → dist x y ≤ m) → {number : P → ℕ} {k : ℕ} {xs : List P} {old answers : List ℕ} {count far : ℕ}
      → Chosen dist number k xs old answers count far → far ≤ m
  chosen_small m h {k = k} {xs = xs} c =
      let low = reach_small m h (farthest_first dist k xs) xs in
      let is = c.reached in
      omega arith
