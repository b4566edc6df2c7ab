-- A panel is made exactly where its offsets are in range.
use Rattle.std.proofs.Common.{◌≡◌, ℕ, zero, suc, ◌<◌, ◌≤◌, true, false, cond, List, get_or, ℤ, pos, nat_abs, Ok, Err, Result, sym, refl, ap, ◌∙◌, ⊎_elim, arith}
use Rattle.std.proofs.lemmas.Bool.Decides.{nat_tests}
use Rattle.std.proofs.lemmas.Bool.{cases_lt, cases_Bool}
use Rattle.refusal.specs.declared.Refusal.{Refusal}
use Rattle.refusal.specs.declared.Refusal.TheVariants.{PieceOutOfRange}
use Rattle.refusal.specs.Makes.{MadeIf}
use Rattle.tape.specs.declared.hull.Panel.{Panel}
use Rattle.tape.specs.Hull.{InRange}
use Rattle.order.specs.Orders.{in_range, panel_of}

Near : ℕ → List ℤ → Type 0
Near n zs = (k : ℕ) → k < n → nat_abs (get_or zs k (pos 0)) ≤ 500000

near_test : (n : ℕ) (zs : List ℤ) → Near n zs → in_range n zs ≡ true
unfolding Near
near_test zero zs f = refl
near_test (suc n) zs f =
    let here : nat_abs (get_or zs n (pos 0)) ≤ 500000 = f n (omega arith) in
    let rest : in_range n zs ≡ true = near_test n zs (λ k h. f k (omega arith)) in
    grind (arith, nat_tests)

test_near : (n : ℕ) (zs : List ℤ) → in_range n zs ≡ true → Near n zs
unfolding Near
test_near zero zs e k h = let no : ⊥ = omega arith in absurd no
test_near (suc n) zs e k h =
    let here : nat_abs (get_or zs n (pos 0)) ≤ 500000 = grind (arith, nat_tests) in
    let rest : in_range n zs ≡ true = grind (arith, nat_tests) in
    ⊎_elim (λ (l : k < n). test_near n zs rest k l) (λ (l : n ≤ k). let q : k ≡ n = omega arith in rw q here) (cases_lt k n)

pub panel_is : (zs : List ℤ) (r : Result Panel Refusal) → MadeIf (InRange zs) (λ p. p.offsets ≡ zs) PieceOutOfRange r → r ≡ panel_of zs
unfolding Near
panel_is zs (Ok p) h =
    ap (λ xs. Ok (record { offsets = xs })) h.1
    ∙ ap (λ b. cond b (Ok (record { offsets = zs })) (Err PieceOutOfRange)) (sym (near_test 8 zs h.0))
panel_is zs (Err e) h =
    let out : in_range 8 zs ≡ false =
    ⊎_elim (λ (q : in_range 8 zs ≡ true). absurd (h.0 (test_near 8 zs q))) (λ (q : in_range 8 zs ≡ false). q) (cases_Bool (in_range 8 zs)) in
    ap Err h.1 ∙ ap (λ b. cond b (Ok (record { offsets = zs })) (Err PieceOutOfRange)) (sym out)
