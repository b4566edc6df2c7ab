use Rattle.std.proofs.Common.{◌≡◌, ℕ, ◌+◌, ◌-◌, ◌≤◌, List, drop, length, subst, arith}
use Rattle.std.proofs.lemmas.List.{drop-drop, drop-take, length-take}
use Rattle.std.specs.List.{slice_range}
use Rattle.rack.specs.Waiting.{Waiting}
use Rattle.rack.proofs.inflow.Inflow.consume.Goals as goal

-- what is left of a part of a list without its first n elements
rest : (xs : List ℕ) (i j n : ℕ) → n ≤ length (slice_range xs i j) → slice_range xs (i + n) j ≡ drop n (slice_range xs i j)
rest xs i j n h =
    let h2 = length-take (j - i) (drop i xs) in
    let e : j - i ≡ n + (j - (i + n)) = omega arith in
    rw (e, drop-take n (j - (i + n)) (drop i xs), drop-drop n i xs)

pub returns-clause-bytes : goal.returns-clause-bytes
returns-clause-bytes c =
    let f = c.self.inside in
    subst (λ (w : Waiting). c.args.count ≤ length w.bytes → slice_range f.bytes (f.start + c.args.count) f.end ≡ drop c.args.count w.bytes)
    c.self.view_is (rest f.bytes f.start f.end c.args.count) c.requires
