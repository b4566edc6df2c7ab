use Rattle.std.proofs.Common.{◌≡◌, drop}
use Rattle.script.specs.Numerals.{counted, numeral_of}
use Rattle.script.proofs.number.numeral.Given as goal

-- what is left goes on from the value so far
abbrev pub invariant-loop-byte : goal.invariant-loop-byte
invariant-loop-byte g l =
    counted g.row.BASE 18446744073709551615 l.value (drop l.byte-index l.digits) ≡ numeral_of g.row.BASE 18446744073709551615 l.digits
