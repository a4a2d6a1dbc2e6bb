-- Where `struct module` has the address and the sizes of a module's parts, by the kernel's own types.
-- Source: include/linux/module.h, `struct module`: `core_layout` and `init_layout` (`struct module_layout`) up to 6.3, and `mem`
-- (`struct module_memory`) from 6.4 on.
use Rattle.std.specs.Prelude.{ℕ, ◌+◌, ◌-◌, ◌%◌, ◌^◌, nat_le, if◌then◌else◌, List, codes, Option, Some, None, option_and_then, Result, Ok, Err}
use Rattle.std.specs.Option.{option_or}
use Rattle.kc_btf.specs.declared.types.ArrayOf.{ArrayOf}
use Rattle.kc_btf.specs.Btf.{Types}
use Rattle.kc_layout.specs.declared.fault.PathFault.{PathFault}
use Rattle.kc_layout.specs.Bare.{array_under}
use Rattle.kc_layout.specs.Ends.{ByteAt, located}
use Rattle.kc_layout.specs.Find.{find}
use Rattle.kc_modules.specs.declared.shape.ModuleParts.{ModuleParts}

-- what follows from a part that is there
infixl 10 ◌>>=◌
abbrev pub ◌>>=◌ : {A B : Type 0} → Option A → (A → Option B) → Option B
None >>= f = None
(Some x) >>= f = f x

-- the byte of a member in the struct with a name
abbrev pub byte_at : Result ByteAt PathFault → Option ℕ
byte_at (Err fault) = None
byte_at (Ok place) = Some place.byte

abbrev pub member : Types → List ℕ → List ℕ → Option ℕ
member types name path = option_and_then (λ id. byte_at (located types id path)) (find types name)

-- how many elements a member has that is an array, of 64 at most
abbrev pub count_if : ArrayOf → Option ℕ
count_if array = if nat_le array.nelems 64 then Some array.nelems else None

abbrev pub count_at : Types → Result ByteAt PathFault → Option ℕ
count_at types (Err fault) = None
count_at types (Ok place) = option_and_then count_if (array_under types place.ty)

abbrev pub elements : Types → List ℕ → List ℕ → Option ℕ
elements types name path = option_and_then (λ id. count_at types (located types id path)) (find types name)

-- the address so many bytes before one. Addresses wrap at 2^64.
abbrev pub back : ℕ → ℕ → ℕ
back at count = (at + (2 ^ 64 - count)) % 2 ^ 64

-- a part that stays, whose address is the module's, and one that is gone after init
unfoldable pub layout_parts : Types → Option ModuleParts
layout_parts types = do
  base ← member types (codes "module") (codes "core_layout.base")
  size ← member types (codes "module") (codes "core_layout.size")
  next ← member types (codes "module") (codes "init_layout.size")
  Some (record { base = base; size = size; count = 2; stride = back next size })

-- an array of parts, of which the first is the text (MOD_TEXT); its address is the module's
unfoldable pub array_parts : Types → Option ModuleParts
array_parts types = do
  base ← member types (codes "module") (codes "mem[0].base")
  size ← member types (codes "module") (codes "mem[0].size")
  next ← member types (codes "module") (codes "mem[1].size")
  count ← elements types (codes "module") (codes "mem")
  Some (record { base = base; size = size; count = count; stride = back next size })

abbrev pub parts_in : Types → Option ModuleParts
parts_in types = option_or (layout_parts types) (array_parts types)
