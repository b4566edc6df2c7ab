use Rattle.std.proofs.Common.{◌≡◌, ◌+◌, ◌*◌, ◌≤◌, ◌++◌, length, take}
use Rattle.listing.specs.Texts.{offsets_text}
use Rattle.listing.proofs.text.put_offsets.Given as goal

abbrev pub invariant-loop-offset : goal.invariant-loop-offset
invariant-loop-offset l =
    (l.line ≡ l.initial.line ++ offsets_text (take l.offset-index l.offsets)) × (length l.line ≤ length l.initial.line + 12 * l.offset-index)
