use Rattle.std.proofs.Common.{◌≡◌, ◌+◌, ◌*◌, ◌≤◌, ◌++◌, length, take}
use Rattle.label.specs.Texts.{arrivals_text}
use Rattle.label.proofs.text.put_arrivals.Given as goal

abbrev pub invariant-loop-arrival : goal.invariant-loop-arrival
invariant-loop-arrival l =
    (l.line ≡ l.initial.line ++ arrivals_text (take (length l.yielded) l.arrivals))
    × (length l.line ≤ length l.initial.line + 11 * length l.yielded)
