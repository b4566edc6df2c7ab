-- The least of a list, by its place.
use Rattle.std.proofs.Common.{◌≡◌, ℕ, zero, suc, ◌<◌, ◌≤◌, Bool, true, false, cond, leb, List, [], ◌∷◌, length, get_or, refl, ap, ◌∙◌, arith}
use Rattle.std.specs.List.{remove}
use Rattle.std.proofs.lemmas.Bool.{le-leb, lt-leb}
use Rattle.rules.specs.Words.{least}

-- the least is no less than what is below all
least_above : {X : Type 0} (n : X → ℕ) (m : ℕ) (d x : X) (xs : List X) → ((k : ℕ) → k < suc (length xs) → m ≤ n (get_or (x ∷ xs) k d)) → m ≤ n (least n x xs).0
least_above n m d x [] h = h 0 (omega arith)
least_above {X} n m d x (y ∷ ys) h =
    go (h 0 (omega arith)) (least_above n m d y ys (λ k l. h (suc k) (omega arith))) (leb (n x) (n (least n y ys).0))
  where
    go : m ≤ n x → m ≤ n (least n y ys).0 → (b : Bool) → m ≤ n (cond {A = X × List X} b (x, y ∷ ys) ((least n y ys).0, x ∷ (least n y ys).1)).0
    go low rest true = low
    go low rest false = rest

-- the first with the least number stands at i
pub least_at : {X : Type 0} (n : X → ℕ) (d x : X) (xs : List X) (i : ℕ) → i < suc (length xs)
    → ((k : ℕ) → k < suc (length xs) → n (get_or (x ∷ xs) i d) ≤ n (get_or (x ∷ xs) k d))
    → ((k : ℕ) → k < i → n (get_or (x ∷ xs) i d) < n (get_or (x ∷ xs) k d))
    → least n x xs ≡ (get_or (x ∷ xs) i d, remove (x ∷ xs) i)
least_at n d x [] zero h low first = refl
least_at n d x [] (suc i) h low first = absurd (omega arith)
least_at {X} n d x (y ∷ ys) zero h low first =
    let under : n x ≤ n (least n y ys).0 = least_above n (n x) d y ys (λ k l. low (suc k) (omega arith)) in
    ap (λ b. cond {A = X × List X} b (x, y ∷ ys) ((least n y ys).0, x ∷ (least n y ys).1)) (le-leb (n x) (n (least n y ys).0) under)
least_at {X} n d x (y ∷ ys) (suc i) h low first =
    let rest : least n y ys ≡ (get_or (y ∷ ys) i d, remove (y ∷ ys) i) =
    least_at n d y ys i (omega arith) (λ k l. low (suc k) (omega arith)) (λ k l. first (suc k) (omega arith)) in
    let over : n (get_or (y ∷ ys) i d) < n x = first 0 (omega arith) in
    ap (λ p. cond {A = X × List X} (leb (n x) (n p.0)) (x, y ∷ ys) (p.0, x ∷ p.1)) rest
    ∙ ap (λ b. cond {A = X × List X} b (x, y ∷ ys) (get_or (y ∷ ys) i d, x ∷ remove (y ∷ ys) i)) (lt-leb (n x) (n (get_or (y ∷ ys) i d)) over)
