-- What a call answers.
use Rattle.std.specs.Prelude.{◌≡◌, Option, Some, None, Result, Ok, Err, ⊤}
use Rattle.kc_expr.specs.declared.keys.fault.PlanFault.{PlanFault}
use Rattle.kc_expr.specs.declared.keys.fault.PlanStop.{PlanStop}
use Rattle.kc_expr.specs.declared.keys.fault.PlanStop.TheVariants.{Fault, NoMemory}

-- The result, seen by view, is the meant one; or memory was wanting.
abbrev pub Gives : {X Y : Type 0} → (X → Y) → Result X PlanStop → Result Y PlanFault → Type 0
Gives view (Ok x) meant = meant ≡ Ok (view x)
Gives view (Err (Fault fault)) meant = meant ≡ Err fault
Gives view (Err NoMemory) meant = ⊤

-- All items are read, or some isn't of the kind and the answer is this stop; or memory was wanting.
abbrev pub ReadsAll : {X Y : Type 0} → (X → Y) → Result X PlanStop → PlanStop → Option Y → Type 0
ReadsAll view (Ok x) wrong meant = meant ≡ Some (view x)
ReadsAll view (Err (Fault fault)) wrong meant = (meant ≡ None) × (wrong ≡ Fault fault)
ReadsAll view (Err NoMemory) wrong meant = ⊤
