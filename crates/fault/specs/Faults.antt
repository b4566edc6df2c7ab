-- Refusals with the offset of the command that they refuse.
use Rattle.std.specs.Prelude.{ℕ, List, ◌++◌, Ok, Err, codes, decimal, Result}
use Rattle.refusal.specs.declared.Refusal.{Refusal}
use Rattle.fault.specs.declared.Fault.{Fault}
use Rattle.refusal.specs.Codes.{code, depth}

abbrev pub refused_at : Refusal → ℕ → Fault
refused_at why at = record { refusal = why; offset = at }

-- an answer with its refusal put at an offset
abbrev pub located_at : {X : Type 0} → ℕ → Result X Refusal → Result X Fault
located_at at (Ok x) = Ok x
located_at at (Err why) = Err (refused_at why at)

-- one step after another: the first error is the answer, and nothing on the way changes it
abbrev pub and_then : {X Y E : Type 0} → Result X E → (X → Result Y E) → Result Y E
and_then (Ok x) next = next x
and_then (Err e) next = Err e

-- the text that users see
abbrev pub fault_text : Fault → List ℕ
fault_text fault =
    codes "refused " ++ (decimal (code fault.refusal).number
    ++ (codes " layer " ++ (decimal (depth (code fault.refusal).layer)
    ++ (codes " at " ++ decimal fault.offset))))
