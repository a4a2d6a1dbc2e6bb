-- What a stop tells.
use Rattle.std.specs.Prelude.{ℕ, Option, Some, None}
use Rattle.kc_expr.specs.declared.stop.ExprStop.{ExprStop}
use Rattle.kc_expr.specs.declared.stop.ExprStop.TheVariants.{X1, NoMemory}

-- the place of a fault
abbrev pub place_of : ExprStop → Option ℕ
place_of (X1 n) = Some n
place_of NoMemory = None
