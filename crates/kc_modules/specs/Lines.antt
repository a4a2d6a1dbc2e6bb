-- The modules of a kernel, a line each, as /proc/modules has their names, sizes and addresses (kernel/module/procfs.c, m_show). One that is
-- still being set up (MODULE_STATE_UNFORMED) has a line too, which m_show leaves out.
use Rattle.std.specs.Prelude.{ℕ, zero, suc, ◌==◌, List, [], ◌∷◌, ◌++◌, codes, decimal, Result, Ok}
use Rattle.std.specs.List.{before_first}
use Rattle.kc_bytes.specs.Bytes.{onward}
use Rattle.kc_memory.specs.Image.{Image}
use Rattle.kc_btf.specs.Btf.{btf}
use Rattle.kc_kallsyms.specs.declared.fault.ModuleList.TheVariants.{Loaded}
use Rattle.kc_kallsyms.specs.declared.places.Places.{Places}
use Rattle.kc_kallsyms.specs.Bytes.{bytes_at, eight_at, four_at}
use Rattle.kc_kallsyms.specs.Modules.{ListStart, start_at}
use Rattle.kc_kallsyms.specs.Reading.{◌>>=◌, Why, judged}
use Rattle.kc_text.specs.Text.{hex, name_text}
use Rattle.kc_modules.specs.declared.shape.ModuleFields.{ModuleFields}
use Rattle.kc_modules.specs.Lists.{nodes_at}
use Rattle.kc_modules.specs.Parts.{back}
use Rattle.kc_modules.specs.Shapes.{module_fields, sound}

-- the bytes before the first NUL, or all where there is none
abbrev pub text_of : List ℕ → List ℕ
text_of bytes = before_first (λ c. c == 0) bytes

-- the name that stands at an address, of 56 bytes (MODULE_NAME_LEN)
unfoldable pub name_at : Image → ℕ → Result (List ℕ) Why
name_at image at = bytes_at image 56 at >>= (λ bytes. Ok (text_of bytes))

-- The sum of so many sizes of four bytes, from an address on, and of what was summed before. It is taken modulo 2^64, which it never reaches.
unfoldable pub sizes_from : Image → ℕ → ℕ → ℕ → ℕ → Result ℕ Why
sizes_from image stride zero at sum = Ok sum
sizes_from image stride (suc count) at sum = four_at image at >>= (λ size. sizes_from image stride count (onward at stride) (onward sum size))

-- a module: its name, its size in bytes, and the address of its first part
pub record Entry : Type 0 where
  pub name : List ℕ
  pub size : ℕ
  pub base : ℕ

-- by the address of its node
unfoldable pub entry_at : Image → ModuleFields → ℕ → Result Entry Why
entry_at image shape node = do
  name ← name_at image (onward (back node shape.list) shape.name)
  size ← sizes_from image shape.parts.stride shape.parts.count (onward (back node shape.list) shape.parts.size) 0
  base ← eight_at image (onward (back node shape.list) shape.parts.base)
  Ok (record { name = name; size = size; base = base })

-- its line; a byte of the name that is no visible ASCII is a question mark
abbrev pub line : Entry → List ℕ
line e = name_text e.name ++ codes " " ++ decimal e.size ++ codes " " ++ hex e.base ++ codes "\n"

-- the lines of those at some nodes
unfoldable pub lines_at : Image → ModuleFields → List ℕ → Result (List ℕ) Why
lines_at image shape [] = Ok []
lines_at image shape (node ∷ nodes) = do
  entry ← entry_at image shape node
  rest ← lines_at image shape nodes
  Ok (line entry ++ rest)

-- of all modules
abbrev pub lines_of : Image → ListStart → Result (List ℕ) Why
lines_of image start = do
  types ← judged (sound (btf start.types))
  shape ← judged (module_fields types)
  nodes ← nodes_at image start.head
  lines_at image shape nodes

unfoldable pub modules_at : Image → ℕ → Places → Result (List ℕ) Why
modules_at image kaslr places = start_at image kaslr places Loaded >>= lines_of image
