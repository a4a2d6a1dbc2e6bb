-- One value for each slot.
use Rattle.kc_outside.specs.declared.store.Slot.{Slot}
use Rattle.kc_outside.specs.declared.store.Slot.TheVariants.{Dump, Btf, Map, Plan, Report, Module}
use Rattle.kc_outside.specs.declared.slots.Slots.{Slots}

-- what a slot has
abbrev pub in_slot : {T : Type 0} → Slots T → Slot → T
in_slot slots Dump = slots.dump
in_slot slots Btf = slots.btf
in_slot slots Map = slots.map
in_slot slots Plan = slots.plan
in_slot slots Report = slots.report
in_slot slots Module = slots.extra

-- the same with another value for one slot
abbrev pub with_slot : {T : Type 0} → Slots T → Slot → T → Slots T
with_slot slots Dump value = record slots { dump = value }
with_slot slots Btf value = record slots { btf = value }
with_slot slots Map value = record slots { map = value }
with_slot slots Plan value = record slots { plan = value }
with_slot slots Report value = record slots { report = value }
with_slot slots Module value = record slots { extra = value }
