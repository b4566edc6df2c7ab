-- Offsets read one after another.
use Rattle.std.proofs.Common.{◌≡◌, ℕ, zero, suc, ◌+◌, ◌-◌, ◌<◌, List, [], ◌∷◌, ◌++◌, length, take, set, ℤ, Ok, Err, sym, refl, ap, ◌∙◌, add-one, arith}
use Rattle.std.proofs.lemmas.List.{take_more_set}
use Rattle.fault.specs.Faults.{and_then}
use Rattle.script.specs.declared.mistake.Mistake.{Mistake}
use Rattle.script.specs.Lines.{offset_at, offsets_at}

pub offsets_none : (xs : List ℕ) (at : ℕ) → offsets_at 0 xs at ≡ Ok ([], at)
unfolding offsets_at
offsets_none xs at = refl

step : (n : ℕ) (xs : List ℕ) (at : ℕ)
    → offsets_at (suc n) xs at ≡ and_then (offsets_at n xs at) (λ p. and_then (offset_at xs p.1) (λ q. Ok (p.0 ++ q.0 ∷ [], q.1)))
unfolding offsets_at
step n xs at = refl

-- one more
pub offsets_more : (n : ℕ) (xs : List ℕ) (at from end : ℕ) (zs : List ℤ) (z : ℤ) → n < length zs
    → offsets_at n xs at ≡ Ok (take n zs, from) → offset_at xs from ≡ Ok (z, end)
    → offsets_at (n + 1) xs at ≡ Ok (take (n + 1) (set zs n z), end)
offsets_more n xs at from end zs z h before here =
    ap (λ m. offsets_at m xs at) (add-one n) ∙ step n xs at
    ∙ ap (λ r. and_then r (λ p. and_then (offset_at xs p.1) (λ q. Ok (p.0 ++ q.0 ∷ [], q.1)))) before
    ∙ ap (λ r. and_then r (λ q. Ok (take n zs ++ q.0 ∷ [], q.1))) here
    ∙ ap (λ ys. Ok (ys, end)) (sym (take_more_set zs n z h))

-- an error stays
after : (k n : ℕ) (xs : List ℕ) (at : ℕ) (e : Mistake) → offsets_at n xs at ≡ Err e → offsets_at (n + k) xs at ≡ Err e
after zero n xs at e h = let same : n + 0 ≡ n = omega arith in ap (λ m. offsets_at m xs at) same ∙ h
after (suc k) n xs at e h =
    let same : n + suc k ≡ suc (n + k) = omega arith in
    ap (λ m. offsets_at m xs at) same ∙ step (n + k) xs at
    ∙ ap (λ r. and_then r (λ p. and_then (offset_at xs p.1) (λ q. Ok (p.0 ++ q.0 ∷ [], q.1)))) (after k n xs at e h)

pub offsets_fail : (n : ℕ) (xs : List ℕ) (at from : ℕ) (zs : List ℤ) (e : Mistake) → n < 8
    → offsets_at n xs at ≡ Ok (zs, from) → offset_at xs from ≡ Err e → offsets_at 8 xs at ≡ Err e
offsets_fail n xs at from zs e h before here =
    let first : offsets_at (suc n) xs at ≡ Err e =
    step n xs at
    ∙ ap (λ r. and_then r (λ p. and_then (offset_at xs p.1) (λ q. Ok (p.0 ++ q.0 ∷ [], q.1)))) before
    ∙ ap (λ r. and_then r (λ q. Ok (zs ++ q.0 ∷ [], q.1))) here in
    let all : 8 ≡ suc n + (8 - suc n) = omega arith in
    ap (λ m. offsets_at m xs at) all ∙ after (8 - suc n) (suc n) xs at e first
