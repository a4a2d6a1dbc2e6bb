-- Which file a refusal is about.
use Rattle.std.specs.Prelude.{◌≡◌, ⊤, Option, Some, None, Result, Ok, Err}
use Rattle.kc_outside.specs.declared.store.Slot.{Slot}
use Rattle.kc_outside.specs.declared.store.Slot.TheVariants.{Dump, Btf, Map, Plan as plan_slot, Report, Module as module_slot}
use Rattle.kc_command.specs.declared.refusal.Refusal.{Refusal}
use Rattle.kc_command.specs.declared.refusal.Refusal.TheVariants.{Core, Notes, Tables, Log, TooLong, Types, Module, MapLine, Symbol, NoType, Path, Plan, Certificate, Report as report_refused}
use Rattle.kc_command.specs.declared.halt.Halt.{Halt}
use Rattle.kc_command.specs.declared.halt.Halt.TheVariants.{Refused, Store, Memory}

-- the slot of the refused file, or none where what is looked up in the files is refused
abbrev pub refused_slot : Refusal → Option Slot
refused_slot (Core fault) = Some Dump
refused_slot (Notes fault) = Some Dump
refused_slot (Tables fault) = Some Dump
refused_slot (Log fault) = Some Dump
refused_slot (TooLong slot) = Some slot
refused_slot (Types fault) = Some Btf
refused_slot (Module fault) = Some module_slot
refused_slot (MapLine line) = Some Map
refused_slot (Symbol fault) = None
refused_slot NoType = None
refused_slot (Path fault) = None
refused_slot (Plan fault) = Some plan_slot
refused_slot (Certificate at) = Some Report
refused_slot (report_refused fault) = Some Report

-- a refusal is about this file, or about none
abbrev pub IsAbout : {A : Type 0} → Option Slot → Result A Refusal → Type 0
IsAbout slot (Ok a) = ⊤
IsAbout slot (Err refusal) = refused_slot refusal ≡ slot

-- the same of a step that may fail in other ways
abbrev pub RefusesAbout : {A : Type 0} → Option Slot → Result A Halt → Type 0
RefusesAbout slot (Ok a) = ⊤
RefusesAbout slot (Err (Refused refusal)) = refused_slot refusal ≡ slot
RefusesAbout slot (Err Store) = ⊤
RefusesAbout slot (Err Memory) = ⊤

abbrev pub RefusesIn : {A : Type 0} → Slot → Result A Halt → Type 0
RefusesIn slot r = RefusesAbout (Some slot) r
