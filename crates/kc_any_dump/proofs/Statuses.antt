-- What is said at some statuses.
use Rattle.std.proofs.Common.{◌⊎◌, Bool, true, false, inr}
use Rattle.std.specs.Bool.{OnTrue}

pub under : {P Q : Type 0} (b : Bool) → (P → Q) → OnTrue b P → OnTrue b Q
under true follows p = follows p
under false follows p = tt

pub second : (P Q R : Type 0) (b : Bool) → OnTrue b P → OnTrue b Q → OnTrue b (R ⊎ (P × Q))
second P Q R true p q = inr (p, q)
second P Q R false p q = tt
