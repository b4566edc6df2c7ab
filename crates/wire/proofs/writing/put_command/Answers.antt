use Rattle.std.specs.Int.{to_be_bytes}
use Rattle.std.proofs.Common.{w32, of_z, rules, ◌≡◌, ◌∷◌, [], ◌++◌, ◌<◌, length, get_or, pos, sym, refl, ap, subst, ◌∙◌, ⊎_elim, arith}
use Rattle.command.specs.Bytes.{be32, be32zs}
use Rattle.command.specs.Commands.{operands_of, Carried}
use Rattle.command.proofs.Words.{be32_bytes, be64_bytes}
use Rattle.wire.proofs.Parts.{filled_one, filled_two, some_bytes, bytes_are, flattened}
use Rattle.wire.proofs.writing.put_command.Goals as goal

pub returns-in-Settings : goal.returns-in-Settings
returns-in-Settings c =
    let command = c.args.command.now in
    let some : 0 < length c.args.out.now = omega (arith, some_bytes command) in
    let s = c.in-Settings.settings in
    let front = c.copy_from_slice.new.self in
    let n = c.copy_from_slice-in-Settings.new.self in
    let operands : front ++ n ≡ operands_of command =
    ap (λ xs. xs ++ n) c.copy_from_slice.ensures.after
    ∙ ap (λ xs. s.kind ∷ s.k ∷ s.f ∷ s.limit ∷ s.term ∷ xs) (c.copy_from_slice-in-Settings.ensures.after ∙ c.to_be_bytes.ensures ∙ be32_bytes s.n)
    ∙ ap operands_of (sym c.in-Settings.is) in
    filled_two c.args.out.now c.into.result 5 6 front n some (ap length c.copy_from_slice.ensures.after) refl
    ∙ bytes_are command c.verb.result c.into.result (front ++ n) c.verb.ensures c.into.ensures operands

pub returns-in-Radius : goal.returns-in-Radius
returns-in-Radius c =
    let command = c.args.command.now in
    let some : 0 < length c.args.out.now = omega (arith, some_bytes command) in
    let part = c.copy_from_slice-in-Radius.new.self in
    let operands : part ≡ operands_of command =
    c.copy_from_slice-in-Radius.ensures.after ∙ c.to_be_bytes-in-Radius.ensures ∙ be32_bytes c.in-Radius.number
    ∙ ⊎_elim (λ e. ap operands_of (sym e)) (λ e. ap operands_of (sym e)) c.in-Radius.is in
    filled_one c.args.out.now c.into.result part some ∙ bytes_are command c.verb.result c.into.result part c.verb.ensures c.into.ensures operands

pub returns-in-Hull : goal.returns-in-Hull
returns-in-Hull c =
    let command = c.args.command.now in
    let some : 0 < length c.args.out.now = omega (arith, some_bytes command) in
    let carried = subst Carried c.in-Hull.is c.carried.ensures in
    let day = c.copy_from_slice-in-Hull.new.self in
    let offsets = c.copy_from_slice-in-Hull-2.new.self in
    let each : offsets ≡ be32zs c.in-Hull.offsets = c.copy_from_slice-in-Hull-2.ensures.after ∙ c.as_flattened.ensures.value
    ∙ flattened c.in-Hull.offsets c.map.result (c.map.ensures.items.long ∙ sym carried.1) (λ i h. let x = c.map.ensures.items.at i (pos 0) [] (omega (arith, carried.1)) in
    let y : (get_or c.map.result i [] ≡ to_be_bytes w32 (of_z w32 (get_or c.in-Hull.offsets i (pos 0)))) = search rules in y ∙ be32_bytes (of_z w32 (get_or c.in-Hull.offsets i (pos 0)))) in
    let operands : day ++ offsets ≡ operands_of command =
    ap (λ xs. xs ++ offsets) (c.copy_from_slice-in-Hull.ensures.after ∙ c.to_be_bytes-in-Hull.ensures ∙ be32_bytes c.in-Hull.day)
    ∙ ap (λ xs. be32 c.in-Hull.day ++ xs) each
    ∙ ap operands_of (sym c.in-Hull.is) in
    filled_two c.args.out.now c.into.result 4 5 day offsets some (ap length (c.copy_from_slice-in-Hull.ensures.after ∙ c.to_be_bytes-in-Hull.ensures)) refl
    ∙ bytes_are command c.verb.result c.into.result (day ++ offsets) c.verb.ensures c.into.ensures operands

pub returns-in-Joinery : goal.returns-in-Joinery
returns-in-Joinery c =
    let command = c.args.command.now in
    let some : 0 < length c.args.out.now = omega (arith, some_bytes command) in
    let day = c.copy_from_slice-in-Joinery.new.self in
    let word = c.copy_from_slice-in-Joinery-2.new.self in
    let operands : day ++ word ≡ operands_of command =
    ap (λ xs. xs ++ word) (c.copy_from_slice-in-Joinery.ensures.after ∙ c.to_be_bytes-in-Joinery.ensures ∙ be32_bytes c.in-Joinery.day)
    ∙ ap (λ xs. be32 c.in-Joinery.day ++ xs) (c.copy_from_slice-in-Joinery-2.ensures.after ∙ c.to_be_bytes-in-Joinery-2.ensures ∙ be64_bytes c.in-Joinery.word)
    ∙ ap operands_of (sym c.in-Joinery.is) in
    filled_two c.args.out.now c.into.result 4 5 day word some (ap length (c.copy_from_slice-in-Joinery.ensures.after ∙ c.to_be_bytes-in-Joinery.ensures)) refl
    ∙ bytes_are command c.verb.result c.into.result (day ++ word) c.verb.ensures c.into.ensures operands
