-- Two answers joined go where both answers go.
use Rattle.std.specs.Prelude.{Bool, ◌&&◌, ◌||◌, ◌≡◌}
use Rattle.std.proofs.Common.{arith}

pub and_goes : (v x y x2 y2 : Bool) → (x ≡ v → x2 ≡ v) → (y ≡ v → y2 ≡ v) → (x && y) ≡ v → (x2 && y2) ≡ v
and_goes v x y x2 y2 f g h = grind arith

pub or_goes : (v x y x2 y2 : Bool) → (x ≡ v → x2 ≡ v) → (y ≡ v → y2 ≡ v) → (x || y) ≡ v → (x2 || y2) ≡ v
or_goes v x y x2 y2 f g h = grind arith
