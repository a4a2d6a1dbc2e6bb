-- The memory that is looked at.
use Rattle.std.specs.Prelude.{ℕ, List}
use Rattle.kc_memory.specs.Image.{Image}
use Rattle.kc_question.specs.Memory.{bare_image}
use Rattle.kc_command.specs.Kernels.{KernelAt}
use Rattle.kc_command.specs.Paging.{by_info}

-- the memory of a kernel whose dump has these bytes; what the dump leaves out is absent
abbrev pub memory_of : KernelAt → List ℕ → Image
memory_of kernel bytes = bare_image bytes kernel.segments (by_info kernel.told)
