-- What becomes of a reader's error.
use Rattle.kc_btf.specs.declared.stop.BtfStop.{BtfStop}
use Rattle.kc_btf.specs.declared.stop.BtfStop.TheVariants as btf
use Rattle.kc_elf.specs.declared.fault.CoreStop.{CoreStop}
use Rattle.kc_elf.specs.declared.fault.CoreStop.TheVariants as elf
use Rattle.kc_syms.specs.declared.fault.SymStop.{SymStop}
use Rattle.kc_syms.specs.declared.fault.SymStop.TheVariants as syms
use Rattle.kc_expr.specs.declared.keys.fault.PlanStop.{PlanStop}
use Rattle.kc_expr.specs.declared.keys.fault.PlanStop.TheVariants as plans
use Rattle.kc_command.specs.declared.refusal.Refusal.TheVariants.{Core, Types, MapLine, Plan}
use Rattle.kc_command.specs.declared.halt.Halt.{Halt}
use Rattle.kc_command.specs.declared.halt.Halt.TheVariants.{Refused, Store, Memory}

abbrev pub of_core : CoreStop → Halt
of_core (elf.Fault fault) = Refused (Core fault)
of_core elf.ReadFault = Store
of_core elf.NoMemory = Memory

abbrev pub of_types : BtfStop → Halt
of_types (btf.Fault fault) = Refused (Types fault)
of_types btf.NoMemory = Memory

abbrev pub of_map : SymStop → Halt
of_map (syms.S1 line) = Refused (MapLine line)
of_map syms.NoMemory = Memory

abbrev pub of_plan : PlanStop → Halt
of_plan (plans.Fault fault) = Refused (Plan fault)
of_plan plans.NoMemory = Memory
