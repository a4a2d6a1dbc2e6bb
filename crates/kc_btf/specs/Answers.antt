-- What a call answers, beside a definition.
use Rattle.std.specs.Prelude.{◌≡◌, Option, Some, None, Result, Ok, Err}
use Rattle.kc_btf.specs.declared.stop.BtfFault.{BtfFault}
use Rattle.kc_btf.specs.declared.stop.BtfStop.{BtfStop}
use Rattle.kc_btf.specs.declared.stop.BtfStop.TheVariants.{Fault, NoMemory}

-- a fault is the answer exactly where there is one, and it is that one
abbrev pub FaultIs : {X : Type 0} → Result X BtfFault → Option BtfFault → Type 0
FaultIs (Ok x) fault = fault ≡ None
FaultIs (Err answered) fault = fault ≡ Some answered

-- the fault that an error tells; want of memory tells none
abbrev pub told : BtfStop → Option BtfFault
told (Fault fault) = Some fault
told NoMemory = None

-- the fault, where there is one, and else what follows
abbrev pub unless : {X : Type 0} → Option BtfFault → Result X BtfFault → Result X BtfFault
unless None next = next
unless (Some fault) next = Err fault

-- the first of two faults
abbrev pub first_of : Option BtfFault → Option BtfFault → Option BtfFault
first_of None next = next
first_of (Some fault) next = Some fault
