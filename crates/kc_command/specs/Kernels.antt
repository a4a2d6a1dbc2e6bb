-- What the files of a kernel hold.
use Rattle.std.specs.Prelude.{ℕ, List, [], ◌∷◌, Option}
use Rattle.kc_word.specs.declared.plain.Segment.{Segment}
use Rattle.kc_outside.specs.declared.store.Slot.TheVariants as slot
use Rattle.kc_elf.specs.Parts.{Parts}
use Rattle.kc_btf.specs.Btf.{Types}
use Rattle.kc_notes.specs.declared.info.Info.{Info}
use Rattle.kc_notes.specs.Info.{info}
use Rattle.kc_command.specs.declared.kernel.Kernel.{Kernel}
use Rattle.kc_command.specs.declared.kernel.KernelFiles.{KernelFiles}
use Rattle.kc_command.specs.declared.kernel.Noted.{Noted}
use Rattle.kc_command.specs.declared.refusal.Refusal.TheVariants.{Notes}
use Rattle.kc_command.specs.Inputs.{dump_parts, map_in, types_in}
use Rattle.kc_command.specs.Made.{◌>>=◌, Made, checked, gives}
use Rattle.kc_command.specs.Ends.Asked.{Named}

-- a dump's segments and notes, and what these tell
pub record NotedAt : Type 0 where
  pub parts : Parts
  pub told : Info

-- the faults of the file, of at most so many program headers, come before those of its notes
abbrev pub noted_in : (most : ℕ) → Option (List ℕ) → Made NotedAt
noted_in most dump = do
  parts ← dump_parts most dump
  told ← checked Notes (info parts.notes)
  gives (record { parts = parts; told = told })

-- the segments of a dump and its notes, what these tell, its kernel's types, and the bytes of its map
pub record KernelAt : Type 0 where
  pub segments : List Segment
  pub notes : List (List ℕ)
  pub told : Info
  pub types : Types
  pub map : List ℕ

-- the faults come in this order
abbrev pub kernel_in : (most : ℕ) → Option (List ℕ) → Option (List ℕ) → Option (List ℕ) → Made KernelAt
kernel_in most dump btf map = do
  noted ← noted_in most dump
  types ← types_in btf
  listed ← map_in map
  gives (record { segments = noted.parts.segments; notes = noted.parts.notes; told = noted.told; types = types; map = listed })

-- the files in the order in which they are read
abbrev pub kernel_files : KernelFiles → List Named
kernel_files f = record { slot = slot.Dump; name = f.dump.now } ∷ record { slot = slot.Btf; name = f.btf.now } ∷ record { slot = slot.Map; name = f.map.now } ∷ []

-- as the code keeps them
abbrev pub noted_view : Noted → NotedAt
noted_view n = record { parts = n.core; told = n.info }

abbrev pub kernel_view : Kernel → KernelAt
kernel_view k = record { segments = k.core.segments; notes = k.core.notes; told = k.info; types = k.types; map = k.map.items }
