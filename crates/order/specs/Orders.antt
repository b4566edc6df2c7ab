-- Commands with their pieces made.
use Rattle.std.specs.Prelude.{ℕ, zero, suc, Bool, true, cond, ◌&&◌, List, ℤ, pos, Ok, Err, Result, nat_le, slice_index_or, unsigned_abs}
use Rattle.refusal.specs.declared.Refusal.{Refusal}
use Rattle.refusal.specs.declared.Refusal.TheVariants.{PieceOutOfRange}
use Rattle.fault.specs.declared.Fault.{Fault}
use Rattle.fault.specs.Faults.{located_at, and_then}
use Rattle.tape.specs.declared.hull.Panel.{Panel}
use Rattle.command.specs.declared.Command.{Command}
use Rattle.command.specs.declared.Command.TheVariants.{Settings, Radius, Open, Hull, Joinery, Day, Pick}
use Rattle.order.specs.declared.Order.{Order}
use Rattle.order.specs.declared.Order.TheVariants as To

-- the first n offsets are from −500,000 to 500,000
abbrev pub in_range : ℕ → List ℤ → Bool
in_range zero offsets = true
in_range (suc n) offsets = nat_le (unsigned_abs (slice_index_or offsets n (pos 0))) 500000 && in_range n offsets

abbrev pub panel_of : List ℤ → Result Panel Refusal
panel_of offsets = cond (in_range 8 offsets) (Ok (record { offsets = offsets })) (Err PieceOutOfRange)

-- the order of the command that begins at an offset
abbrev pub order_of : ℕ → Command → Result Order Fault
order_of at (Settings s) = Ok (To.Settings s)
order_of at (Radius radius) = Ok (To.Radius radius)
order_of at Open = Ok To.Open
order_of at (Hull day offsets) = and_then (located_at at (panel_of offsets)) (λ panel. Ok (To.Hull day panel))
order_of at (Joinery day word) = Ok (To.Joinery day (record { word = word }))
order_of at (Day day) = Ok (To.Day day)
order_of at Pick = Ok To.Pick
