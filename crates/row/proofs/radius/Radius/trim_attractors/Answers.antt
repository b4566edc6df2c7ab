use Rattle.std.proofs.Common.{◌≡◌, suc, length, ap, ◌∙◌, arith, rules}
use Rattle.std.specs.List.{remove}
use Rattle.std.proofs.lemmas.Slice.{overwrites}
use Rattle.packed.specs.Lists.{cut}
use Rattle.packed.proofs.Packing.{length_cut}
use Rattle.row.specs.Edits.{with_attractors}
use Rattle.row.specs.Radii.{seen}
use Rattle.row.proofs.Changing.{trimmed}
use Rattle.row.proofs.Edited.{attractors_put}
use Rattle.row.proofs.radius.Radius.trim_attractors.Goals as goal

pub returns-then-self-clause-seen : goal.returns-then-self-clause-seen
returns-then-self-clause-seen g c =
    let r = c.args.self.now in
    let k = r.settings.k in
    let n = r.row.now.attractors in
    let few = r.within.0 in
    let size = r.size in
    let over = c.if-self.true in
    let all : length (cut 0 n r.part.now) ≡ suc k = length_cut 0 n r.part.now (omega arith) ∙ omega arith in
    attractors_put r.settings r.row.now (λ ys. remove ys 0) c.remove-self.result r.part.now c.remove-self.new.list
    few size (search (rules, overwrites)) (search (rules, overwrites)) c.remove-self.ensures.removed
    ∙ ap (λ ys. with_attractors ys (seen r)) (trimmed k (cut 0 n r.part.now) all)
