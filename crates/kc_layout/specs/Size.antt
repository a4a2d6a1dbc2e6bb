-- The size of a type in bytes.
use Rattle.std.specs.Prelude.{ℕ, ◌≤◌, ⊤, zero, suc, ◌*◌, ◌^◌, Option, Some, None, option_and_then, nat_lt, if◌then◌else◌}
use Rattle.std.specs.Option.{option_map_or}
use Rattle.kc_btf.specs.declared.kind.Kind.{Kind}
use Rattle.kc_btf.specs.declared.kind.Kind.TheVariants.{Int, Ptr, Array, Struct, Union, Enum, Typedef, Volatile, Const, Restrict, Datasec, Float, TypeTag, Enum64}
use Rattle.kc_btf.specs.declared.types.ArrayOf.{ArrayOf}
use Rattle.kc_btf.specs.Btf.{Types}
use Rattle.kc_btf.specs.Readers.{type_numbered}
use Rattle.kc_layout.specs.declared.size.Extent.{Extent}
use Rattle.kc_layout.specs.declared.size.Extent.TheVariants.{Bytes, Elements, Target, Unknown}
use Rattle.kc_layout.specs.Bare.{array_numbered}

-- where the size of a type stands, by its kind: in its own record; 8 bytes for a pointer; in the type that
-- it is made of
abbrev pub extent_of : Option ArrayOf → Kind → ℕ → Extent
extent_of array Int rest = Bytes rest
extent_of array Struct rest = Bytes rest
extent_of array Union rest = Bytes rest
extent_of array Enum rest = Bytes rest
extent_of array Enum64 rest = Bytes rest
extent_of array Float rest = Bytes rest
extent_of array Datasec rest = Bytes rest
extent_of array Ptr rest = Bytes 8
extent_of array Array rest = option_map_or (λ a. Elements a) array Unknown
extent_of array Typedef rest = Target rest
extent_of array Volatile rest = Target rest
extent_of array Const rest = Target rest
extent_of array Restrict rest = Target rest
extent_of array TypeTag rest = Target rest
extent_of array _ rest = Unknown

-- and by its number
abbrev pub extent : Types → ℕ → Extent
extent types id = option_map_or (λ t. extent_of (array_numbered types id) t.kind t.rest) (type_numbered types id) Unknown

-- an extent that refers to one of so many types
abbrev pub StaysInside : ℕ → Extent → Type 0
StaysInside count (Bytes size) = ⊤
StaysInside count (Elements array) = array.ty ≤ count
StaysInside count (Target id) = id ≤ count
StaysInside count Unknown = ⊤

-- a size that 32 bits count
abbrev pub if_counted : ℕ → Option ℕ
if_counted size = if nat_lt size (2 ^ 32) then Some size else None

-- the size by an extent, where `inner` gives the sizes of other types. An array has its elements' together.
abbrev pub size_by : (ℕ → Option ℕ) → Extent → Option ℕ
size_by inner (Bytes size) = Some size
size_by inner (Elements array) = option_and_then (λ size. if_counted (array.nelems * size)) (inner array.ty)
size_by inner (Target id) = inner id
size_by inner Unknown = None

-- the size of a type under at most `most` arrays and modifiers
unfoldable pub size_within : ℕ → Types → ℕ → Option ℕ
size_within zero types id = size_by (λ inner. None) (extent types id)
size_within (suc most) types id = size_by (size_within most types) (extent types id)

-- the size of a type in bytes, under at most 32 arrays and modifiers
abbrev pub size : Types → ℕ → Option ℕ
size types id = size_within 32 types id
