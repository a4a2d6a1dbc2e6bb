-- A module's types (/sys/kernel/btf/NAME), by its name.
-- Source: kernel/bpf/btf.c, `btf_modules`, `struct btf_module` and `struct btf`, of which `data` and `data_size` are what that file shows.
use Rattle.std.specs.Prelude.{ℕ, ◌^◌, nat_le, if◌then◌else◌, List, [], ◌∷◌, bytes_eq, Result, Ok, Err}
use Rattle.kc_bytes.specs.Bytes.{onward}
use Rattle.kc_memory.specs.Image.{Image}
use Rattle.kc_btf.specs.Btf.{btf}
use Rattle.kc_kallsyms.specs.declared.fault.ModuleList.TheVariants.{Typed}
use Rattle.kc_kallsyms.specs.declared.fault.TableFault.{TableFault}
use Rattle.kc_kallsyms.specs.declared.fault.TableFault.TheVariants.{S16, S17}
use Rattle.kc_kallsyms.specs.declared.places.Places.{Places}
use Rattle.kc_kallsyms.specs.Bytes.{bytes_at, eight_at, four_at}
use Rattle.kc_kallsyms.specs.Modules.{ListStart, start_at}
use Rattle.kc_kallsyms.specs.Reading.{◌>>=◌, Why, Bad, judged}
use Rattle.kc_modules.specs.declared.shape.TypedShape.{TypedShape}
use Rattle.kc_modules.specs.Lines.{name_at}
use Rattle.kc_modules.specs.Lists.{nodes_at}
use Rattle.kc_modules.specs.Parts.{back}
use Rattle.kc_modules.specs.Shapes.{sound, typed_shape}

-- the name of the module that has types at a node
unfoldable pub named_at : Image → TypedShape → ℕ → Result (List ℕ) Why
named_at image shape node = do
  owner ← eight_at image (onward (back node shape.list) shape.module_at)
  name_at image (onward owner shape.name)

-- no more than 64 MiB, as of the kernel's own types
abbrev pub checked_size : ℕ → Result ℕ TableFault
checked_size size = if nat_le size (2 ^ 26) then Ok size else Err S17

-- its types
unfoldable pub data_at : Image → TypedShape → ℕ → Result (List ℕ) Why
data_at image shape node = do
  types ← eight_at image (onward (back node shape.list) shape.btf)
  start ← eight_at image (onward types shape.data_at)
  told ← four_at image (onward types shape.size)
  size ← judged (checked_size told)
  bytes_at image size start

-- those of the first module with the name, among those at some nodes
unfoldable pub types_of : Image → TypedShape → List ℕ → List ℕ → Result (List ℕ) Why
types_of image shape name [] = Err (Bad S16)
types_of image shape name (node ∷ nodes) = do
  other ← named_at image shape node
  if bytes_eq other name then data_at image shape node else types_of image shape name nodes

-- among all that have types
abbrev pub typed_of : Image → List ℕ → ListStart → Result (List ℕ) Why
typed_of image name start = do
  types ← judged (sound (btf start.types))
  shape ← judged (typed_shape types)
  nodes ← nodes_at image start.head
  types_of image shape name nodes

unfoldable pub module_types_at : Image → ℕ → Places → List ℕ → Result (List ℕ) Why
module_types_at image kaslr places name = start_at image kaslr places Typed >>= typed_of image name
