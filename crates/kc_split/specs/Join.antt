-- The types of a kernel and of a module of it as one.
use Rattle.std.specs.Prelude.{ℕ, ◌+◌, ◌^◌, Bool, List, length, ◌++◌, Option, Some, None, Result, Ok, Err, nat_le, ◌||◌, if◌then◌else◌}
use Rattle.std.specs.List.{flat_map}
use Rattle.kc_btf.specs.declared.stop.BtfFault.{BtfFault}
use Rattle.kc_btf.specs.declared.stop.BtfStop.{BtfStop}
use Rattle.kc_btf.specs.Btf.{Types}
use Rattle.kc_btf.specs.Header.{type_section, string_section}
use Rattle.kc_btf.specs.Records.{Record}
use Rattle.kc_btf.specs.Spelling.{spelled}
use Rattle.kc_split.specs.declared.stop.SplitStop.{SplitStop}
use Rattle.kc_split.specs.declared.stop.SplitStop.TheVariants.{Fault, TooLong, NoMemory}
use Rattle.kc_split.specs.Split.{split}

-- the kernel's records and then the module's, and the kernel's strings and then the module's
abbrev pub with_module : Types → List ℕ → List Record → Types
with_module base bytes records = record { records = base.records ++ records; strings = base.strings ++ string_section bytes }

-- whether two lengths together are more than 32 bits count
abbrev pub is_too_long : ℕ → ℕ → Bool
is_too_long a b = nat_le (2 ^ 32) (a + b)

-- whether the two sections of types or the two of strings are too long together
abbrev pub are_too_long : Types → List ℕ → Bool
are_too_long base bytes =
    is_too_long (length (flat_map spelled base.records)) (length (type_section bytes)) || is_too_long (length base.strings) (length (string_section bytes))

abbrev pub join_of : Types → List ℕ → Result (List Record) BtfFault → Result Types SplitStop
join_of base bytes (Err fault) = Err (Fault fault)
join_of base bytes (Ok records) = if are_too_long base bytes then Err TooLong else Ok (with_module base bytes records)

-- the types of both, or the first fault of the module's file, or that they are too long together
abbrev pub join : Types → List ℕ → Result Types SplitStop
join base bytes = join_of base bytes (split base bytes)

-- what an error tells; want of memory tells nothing
abbrev pub told : SplitStop → Option SplitStop
told NoMemory = None
told stop = Some stop

-- why a module's file wasn't read, as why it wasn't joined
abbrev pub of_stop : BtfStop → SplitStop
of_stop (BtfStop.Fault fault) = Fault fault
of_stop BtfStop.NoMemory = NoMemory
