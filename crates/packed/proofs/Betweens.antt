-- A change between two places leaves the lists before and after it.
use Rattle.std.proofs.Common.{◌≡◌, ℕ, ◌+◌, ◌-◌, ◌<◌, ◌≤◌, List, take, drop, set, length, sym, refl, ap, ◌∙◌, arith, rules, subst}
use Rattle.std.proofs.lemmas.List.{drop-drop, drop-set-lt, drop-take, take-set-le, take-take}
use Rattle.std.proofs.lemmas.Slice.{overwrites}
use borrow.Rule.Slice.PartMut.{put_mid}
use Rattle.packed.specs.Lists.{Between, cut}
use Rattle.packed.proofs.Packing.{cut_put_mid}

-- lists that agree before m agree before each n below it
take_front : {X : Type 0} (n m : ℕ) (xs ys : List X) → n ≤ m → take m ys ≡ take m xs → take n ys ≡ take n xs
take_front n m xs ys h e = sym (take-take n m ys h) ∙ ap (take n) e ∙ take-take n m xs h

-- and lists that agree from m on agree from each n above it on
drop_back : {X : Type 0} (m n : ℕ) (xs ys : List X) → m ≤ n → drop m ys ≡ drop m xs → drop n ys ≡ drop n xs
drop_back m n xs ys h e =
    let q : n ≡ m + (n - m) = omega arith in
    ap (λ i. drop i ys) q ∙ sym (drop-drop (n - m) m ys) ∙ ap (drop (n - m)) e ∙ drop-drop (n - m) m xs ∙ ap (λ i. drop i xs) (sym q)

pub cut_below : {X : Type 0} (low high at len : ℕ) (xs ys : List X) → Between low high xs ys → at + len ≤ low → cut at len ys ≡ cut at len xs
cut_below low high at len xs ys b h =
    sym (drop-take at len ys) ∙ ap (drop at) (take_front (at + len) low xs ys h b.before) ∙ drop-take at len xs

pub cut_above : {X : Type 0} (low high at len : ℕ) (xs ys : List X) → Between low high xs ys → high ≤ at → cut at len ys ≡ cut at len xs
cut_above low high at len xs ys b h = ap (take len) (drop_back high at xs ys h b.after)

pub between_wider : {X : Type 0} (low high low2 high2 : ℕ) (xs ys : List X) → low2 ≤ low → high ≤ high2 → Between low high xs ys → Between low2 high2 xs ys
between_wider low high low2 high2 xs ys h k b = record {
  before = take_front low2 low xs ys h b.before;
  after = drop_back high high2 xs ys k b.after;
}

pub between_then : {X : Type 0} (low high : ℕ) (xs ys zs : List X) → Between low high xs ys → Between low high ys zs → Between low high xs zs
between_then low high xs ys zs b c = record { before = c.before ∙ b.before; after = c.after ∙ b.after }

pub between_same : {X : Type 0} (low high : ℕ) (xs : List X) → Between low high xs xs
between_same low high xs = record { before = refl; after = refl }

pub between_set : {X : Type 0} (low high i : ℕ) (xs : List X) (x : X) → low ≤ i → i < high → Between low high xs (set xs i x)
between_set low high i xs x h k = record { before = take-set-le low xs i x h; after = drop-set-lt high xs i x k }

-- a part from `at` on was handed on, and came back as ys
pub between_put : {X : Type 0} (at len : ℕ) (xs ys : List X) → at ≤ length xs → length ys ≡ len → Between at (at + len) xs (put_mid at len xs ys)
between_put at len xs ys h l = record { before = search (rules, overwrites); after = search (rules, overwrites) }

-- What stands in a list of n from b on, and around it, after its slice was handed on and came back as ys, of which the first m
-- are f of what they were. The slice is from a to a + n, by a computed a.
pub put_at : {X : Type 0} (f : List X → List X) (a b k n m : ℕ) (xs ys : List X) → a ≡ b → k ≡ n → b + n ≤ length xs → length ys ≡ n → m ≤ n
    → take m ys ≡ f (take k (drop a xs))
    → (cut b m (put_mid a k xs ys) ≡ f (cut b n xs)) × Between b (b + n) xs (put_mid a k xs ys) × (length (put_mid a k xs ys) ≡ length xs)
put_at f a b k n m xs ys ea ek room len few is =
    let same : put_mid a k xs ys ≡ put_mid b n xs ys = ap (λ i. put_mid i k xs ys) ea ∙ ap (λ j. put_mid b j xs ys) ek in
    let front : take m ys ≡ f (cut b n xs) = is ∙ ap (λ i. f (take k (drop i xs))) ea ∙ ap (λ j. f (take j (drop b xs))) ek in (
      ap (cut b m) same ∙ cut_put_mid b n m xs ys (omega arith) (omega arith) ∙ front,
      subst (Between b (b + n) xs) (sym same) (between_put b n xs ys (omega arith) len),
      ap length same ∙ search (rules, overwrites),
    )
