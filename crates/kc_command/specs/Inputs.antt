-- What the files of a command hold, and what is looked up in them.
use Rattle.std.specs.Prelude.{ℕ, ◌≤◌, ◌^◌, nat_le, if◌then◌else◌, List, length, Option}
use Rattle.std.specs.List.{flat_map}
use Rattle.kc_outside.specs.declared.store.Slot.TheVariants as slot
use Rattle.kc_elf.specs.Parts.{Parts}
use Rattle.kc_elf.specs.CoreFile.{core}
use Rattle.kc_btf.specs.Btf.{Types, btf}
use Rattle.kc_btf.specs.Spelling.{spelled}
use Rattle.kc_split.specs.Join.{with_module}
use Rattle.kc_split.specs.Split.{split}
use Rattle.kc_layout.specs.Find.{find}
use Rattle.kc_layout.specs.Ends.{NumberAt, field}
use Rattle.kc_syms.specs.Addresses.{common_of}
use Rattle.kc_syms.specs.Rows.{RowText, rows}
use Rattle.kc_command.specs.declared.refusal.Refusal.TheVariants as refusal
use Rattle.kc_command.specs.declared.refusal.ReportFault.TheVariants.{F1}
use Rattle.kc_command.specs.Made.{◌>>=◌, Made, bytes_in, checked, gives, refuses, short_file, wanted}

-- At most so many program headers has the core file that stands for a compressed dump: one for each of 2^22 runs
-- of pages, one for the notes, one for the top page table's page.
abbrev pub view_headers : ℕ
view_headers = 4194306

-- the segments and notes of a dump of at most so many program headers, or its first fault
abbrev pub dump_parts : (most : ℕ) → Option (List ℕ) → Made Parts
dump_parts most file = do
  bytes ← bytes_in file
  checked refusal.Core (core most bytes)

-- the types of a kernel, or the first fault of their file: the limit comes first
abbrev pub types_in : Option (List ℕ) → Made Types
types_in file = do
  bytes ← short_file slot.Btf file
  checked refusal.Types (btf bytes)

-- types that a file of no more than 64 MiB has
pub record AreShort (t : Types) : Type 0 where
  pub types : length (flat_map spelled t.records) ≤ 2 ^ 26
  pub strings : length t.strings ≤ 2 ^ 26

-- a kernel's types with those of a module of it, or the first fault of the module's file: the limit comes first
abbrev pub joined_in : Types → List ℕ → Made Types
joined_in base bytes = do
  records ← checked refusal.Module (split base bytes)
  gives (with_module base bytes records)

abbrev pub module_in : Types → Option (List ℕ) → Made Types
module_in base file = do
  bytes ← short_file slot.Module file
  joined_in base bytes

-- the bytes of a map, unless it is above the limit
abbrev pub map_in : Option (List ℕ) → Made (List ℕ)
map_in file = short_file slot.Map file

-- the rows of a map, or its first line that isn't one
abbrev pub rows_in : List ℕ → Made (List RowText)
rows_in map = checked refusal.MapLine (rows map)

-- the address of a symbol, by the addresses that its rows list
abbrev pub symbol_at : ℕ → List ℕ → Made ℕ
symbol_at kaslr listed = checked refusal.Symbol (common_of kaslr listed)

-- the struct or union of a name
abbrev pub type_named : Types → List ℕ → Made ℕ
type_named types name = wanted refusal.NoType (find types name)

-- where the number lies that a path leads to, from a type
abbrev pub number_at : Types → ℕ → List ℕ → Made NumberAt
number_at types id path = checked refusal.Path (field types id path)

-- the bytes of a plan, unless it is above the limit
abbrev pub plan_in : Option (List ℕ) → Made (List ℕ)
plan_in file = short_file slot.Plan file

-- the bytes of a certificate, unless it is above the limit
abbrev pub cert_bytes_in : Option (List ℕ) → Made (List ℕ)
cert_bytes_in file = short_file slot.Report file

-- the bytes of a report, unless it is above 1 MiB
abbrev pub report_short : List ℕ → Made (List ℕ)
report_short bytes = if nat_le (length bytes) (2 ^ 20) then gives bytes else refuses (refusal.Report F1)

abbrev pub report_bytes_in : Option (List ℕ) → Made (List ℕ)
report_bytes_in file = bytes_in file >>= report_short
