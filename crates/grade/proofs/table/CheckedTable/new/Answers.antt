use Rattle.std.proofs.Common.{◌≡◌, ℕ, ◌<◌, ◌+◌, ◌*◌, replicate, arith}
use Rattle.std.proofs.lemmas.List.{get_or-replicate}
use Rattle.grade.specs.Tables.{entry}
use Rattle.grade.proofs.table.CheckedTable.new.Goals as goal

none : (i j : ℕ) → i < 16 → j < 16 → entry (replicate 256 0) i j ≡ 0
none i j h k = get_or-replicate 256 (i * 16 + j) 0 0 (omega arith)

pub invariant_of-result : goal.invariant_of-result
invariant_of-result c = record {
  bounded = λ i j h. omega (arith, none);
  hollow = λ i h. none i i h h;
  mirrored = λ i j h. omega (arith, none);
  direct = λ i j m h. omega (arith, none);
}
