use Rattle.std.proofs.Common.{◌≡◌, ◌≤◌, [], length, Err, sym, refl, ◌∙◌, rules}
use Rattle.std.proofs.lemmas.List.{nil_from_length}
use Rattle.picking.proofs.Shelves.{part_room}
use Rattle.refusal.specs.declared.Refusal.TheVariants.{NothingCounts}
use Rattle.row.specs.Seen.{judged}
use Rattle.rules.specs.Limits.{part_size}
use Rattle.shelf.proofs.Answering.{among_chosen, part_long, picked_at, slack_at, taken_here, used_at}
use Rattle.shelf.proofs.lent.Shelf.pick_at.Goals as goal

pub slice_bounds-lists-end-2 : goal.slice_bounds-lists-end-2
slice_bounds-lists-end-2 g c =
    let w = part_size (judged c.args.settings) in
    let size = c.part_size-size.ensures in
    let room = part_room c.args.j (length c.args.rows.now) w (length c.args.self.now.places.now) c.requires.there c.requires.long in
    search rules

pub invariant_of-lists : goal.invariant_of-lists
invariant_of-lists g c = record {
  within = c.requires.within;
  size = part_long c.args.settings c.args.rows.now c.args.self.now.places.now c.args.j _ c.part_size-size.ensures c.requires.long c.requires.there;
}

pub returns-then-is_empty : goal.returns-then-is_empty
returns-then-is_empty g c =
    let s = c.args.settings in
    let rows = c.args.rows.now in
    let places = c.args.self.now.places.now in
    let j = c.args.j in
    let grain = c.grain_of-grain.result in
    let list = c.used-list.result.now in
    let none : length list ≡ 0 = search rules in
    picked_at (g.T.Tape.dist c.args.tape.now) (g.W.Term.counts c.args.term.now) s rows places j c.args.clock.posts c.args.clock.day
    grain [] _ _ (Err NothingCounts) _ _ c.grain_of-grain.ensures
    (sym (nil_from_length list none)
    ∙ used_at s rows places j _ c.part_size-size.ensures c.requires.long c.requires.there grain list c.used-list.ensures.list)
    (record { answer = refl; written = refl; spared = refl })

pub returns : goal.returns
returns g c =
    let dist = g.T.Tape.dist c.args.tape.now in
    let s = c.args.settings in
    let rows = c.args.rows.now in
    let places = c.args.self.now.places.now in
    let j = c.args.j in
    let grain = c.grain_of-grain.result in
    let list = c.used-list.result.now in
    let some : 1 ≤ length list = search rules in
    picked_at dist (g.W.Term.counts c.args.term.now) s rows places j c.args.clock.posts c.args.clock.day
    grain list _ _ _ _ _ c.grain_of-grain.ensures
    (used_at s rows places j _ c.part_size-size.ensures c.requires.long c.requires.there grain list c.used-list.ensures.list)
    (among_chosen dist s (taken_here s rows places j) grain c.slack.result c.floor_of.result list
    c.args.answers.now c.choose_centres-count.new.answers c.args.work.now c.choose_centres-count.new.work
    c.choose_centres-count.result.0 c.choose_centres-count.result.1 some c.choose_centres-count.ensures.chosen
    c.floor_of.ensures (slack_at s rows places j _ c.part_size-size.ensures c.requires.long c.requires.there grain c.slack.result c.slack.ensures.far))
