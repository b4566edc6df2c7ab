use Rattle.std.proofs.Common.{◌≡◌, [], length, get_or, pos, ap, ◌∙◌, arith, w32, to_z}
use Rattle.std.proofs.lemmas.List.{take_all}
use Rattle.std.specs.Int.{from_be_bytes}
use Rattle.std.specs.Simd.{first_chunks}
use Rattle.wire.proofs.Parts.{signed_reads}
use Rattle.wire.proofs.reading.offsets_of.Goals as goal

pub returns : goal.returns
returns c =
    let xs = c.args.bytes.now in
    let zs = c.map.result in
    let long : length zs ≡ 8 = c.map.ensures.items.long in
    let chunks = c.as_chunks.result.0.now in
    let array : c.array_at.result ≡ first_chunks 4 (length zs) xs =
    c.array_at.ensures ∙ take_all 8 chunks (omega (arith, c.as_chunks.ensures.front_len)) ∙ c.as_chunks.ensures.front
    ∙ ap (λ n. first_chunks 4 n xs) (omega arith) in
    signed_reads xs zs c.type_inv.bytes (omega arith) (λ i l.
    let read : get_or zs i (pos 0) ≡ to_z w32 (from_be_bytes w32 (get_or c.array_at.result i []))
    = (c.map.ensures.items.at i [] (pos 0) (omega arith)).2.met in
    read ∙ ap (λ cs. to_z w32 (from_be_bytes w32 (get_or cs i []))) array)
