use Rattle.std.proofs.Common.{◌≡◌, length, sym, ap, ◌∙◌, arith}
use Rattle.packed.proofs.Packing.{length_cut}
use Rattle.rules.specs.Limits.{attractor_room, representative_room}
use Rattle.rules.specs.Steps.{clean_up}
use Rattle.row.specs.Edits.{stands_with}
use Rattle.row.specs.Radii.{seen}
use Rattle.row.proofs.Enrolled.{enlisted_by, enrol_stands}
use Rattle.row.proofs.radius.Radius.enrol.Goals as goal

pub returns-then-stands-clause-seen : goal.returns-then-stands-clause-seen
returns-then-stands-clause-seen g c =
    let k = c.args.self.now.settings.k in
    let x = c.args.place in
    let r0 = seen c.args.self.now in
    let r1 = seen c.trim_attractors.new.self in
    let r2 = seen c.append_attractor.new.self in
    let r3 = seen c.clean_up.new.self in
    let last = c.clean_up.new.self in
    let n = last.row.now.representatives in
    let k2 : c.append_attractor.new.self.settings.k ≡ k =
    ap (λ s. s.k) (c.append_attractor.ensures.same.settings ∙ c.trim_attractors.ensures.same.settings) in
    let k3 : last.settings.k ≡ k = ap (λ s. s.k) c.clean_up.ensures.same.settings ∙ k2 in
    let few = last.within.1 in
    let size = last.size in
    let len : n ≡ length r3.representatives = sym (length_cut (attractor_room last.settings.k) n last.part.now (omega arith)) in
    enrol_stands k n (representative_room k) x c.standing_for.result r0 r3 _
    (enlisted_by k x r0 r1 r2 r3 c.trim_attractors.ensures.seen c.append_attractor.ensures.seen (c.clean_up.ensures.seen ∙ ap (λ i. clean_up i r2) k2))
    (c.if-stands.ensures ∙ ap (λ i. stands_with i x.arrival r3.attractors) k3)
    c.standing_for.ensures len (λ room. c.append_representative.ensures.seen (omega arith))
