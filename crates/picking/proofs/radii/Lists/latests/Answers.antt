use Rattle.std.proofs.Common.{◌-◌, length, take, drop, sym, ap, ◌∙◌, arith}
use Rattle.std.proofs.lemmas.List.{take-take}
use Rattle.packed.specs.Lists.{cut}
use Rattle.packed.proofs.Packing.{length_cut}
use Rattle.row.specs.Seen.{firsts_at, latests_at}
use Rattle.picking.proofs.Latests.{latests}
use Rattle.picking.proofs.radii.Lists.latests.Goals as goal

pub returns-clause-list : goal.returns-clause-list
returns-clause-list g c =
    let s = c.args.self.now.settings in
    let part = c.args.self.now.part.now in
    let n = c.args.self.now.row.now.entries in
    let fits = c.args.self.now.within.2 in
    let long = c.args.self.now.size in
    ap (λ at. take n (take (length part - at) (drop at part))) c.latests_at.ensures
    ∙ take-take n (length part - latests_at s) (drop (latests_at s) part) (omega arith)
    ∙ sym (latests (cut (firsts_at s) n part) (cut (latests_at s) n part) (length_cut (firsts_at s) n part (omega arith) ∙ sym (length_cut (latests_at s) n part (omega arith))))
