-- The processors of a kernel. Source: the kernel's include/linux/cpumask.h, `cpu_possible_mask` and `nr_cpu_ids`; include/asm-generic/percpu.h,
-- `per_cpu_offset`.
use Rattle.std.specs.Prelude.{ℕ, zero, suc, ◌*◌, ◌/◌, ◌%◌, Bool, false, nat_eq, min, if◌then◌else◌, List, [], ◌++◌, Option, Some, None, option_to_list, Result, Ok}
use Rattle.std.specs.Int.{bit_at}
use Rattle.kc_memory.specs.Bits.{bits}
use Rattle.kc_memory.specs.Image.{Image}
use Rattle.kc_memory.specs.Translation.{vword}
use Rattle.kc_view.specs.Fields.{or_missed}
use Rattle.kc_found.specs.FreeLists.{low_word}
use Rattle.kc_found.specs.Nodes.{at_offset}
use Rattle.kc_found.specs.Trials.{and_then as ◌>>=◌}
use Rattle.kc_found.specs.Violations.{Violation}
use Rattle.kc_owner.specs.Looked.{looked_at}
use Rattle.kc_slab_scan.specs.declared.cpus.Cpu.{Cpu}
use Rattle.kc_slab_scan.specs.declared.cpu_words.CpuShape.{CpuShape}

-- how many processors there are, of 8192 at most (arch/x86/Kconfig, NR_CPUS_RANGE_END)
abbrev pub count_of : Image → CpuShape → Result ℕ Violation
count_of image shape = do
  n ← or_missed (looked_at shape.count) (bits image shape.count 0 32 false)
  Ok (min (low_word n.value) 8192)

-- the word at an index of an array
abbrev pub word_in : Image → ℕ → ℕ → Result ℕ Violation
word_in image array index = do
  w ← or_missed (looked_at array) (vword image (at_offset array (8 * index)))
  Ok w.value

-- the bit of a number in its word
abbrev pub is_possible : ℕ → ℕ → Bool
is_possible word number = nat_eq (bit_at word (number % 64)) 1

-- the processor with a number, where there may be one
abbrev pub cpu_at : Image → CpuShape → ℕ → Result (Option Cpu) Violation
cpu_at image shape number = do
  w ← word_in image shape.possible (number / 64)
  if is_possible w number then (do o ← word_in image shape.offsets number; Ok (Some (record { number = number; offset = o }))) else Ok None

-- those so far, and that one
abbrev pub with_cpu : Image → CpuShape → List Cpu → ℕ → Result (List Cpu) Violation
with_cpu image shape cpus number = do
  c ← cpu_at image shape number
  Ok (cpus ++ option_to_list c)

-- and so many numbers, from one on
unfoldable pub cpus_from : Image → CpuShape → ℕ → ℕ → List Cpu → Result (List Cpu) Violation
cpus_from image shape zero number cpus = Ok cpus
cpus_from image shape (suc left) number cpus = do
  more ← with_cpu image shape cpus number
  cpus_from image shape left (suc number) more

-- the processors that there may be
abbrev pub cpus_in : Image → CpuShape → Result (List Cpu) Violation
cpus_in image shape = do
  n ← count_of image shape
  cpus_from image shape n 0 []
