use Rattle.std.proofs.Common.{refl, rules}
use Rattle.std.proofs.lemmas.Slice.{overwrites}
use Rattle.digits.proofs.slices.put.Goals as goal

pub returns : goal.returns
returns c = record { end = refl; front = search (rules, overwrites); back = search (rules, overwrites) }
