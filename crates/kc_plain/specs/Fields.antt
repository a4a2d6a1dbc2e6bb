-- Numbers one after another.
use Rattle.std.specs.Prelude.{ℕ, List, [], ◌∷◌, ◌++◌}
use Rattle.byteorder.specs.Endian.{little_bytes}
use Rattle.kc_plain.specs.declared.fields.Field.{Field}
use Rattle.kc_plain.specs.declared.fields.Field.TheVariants.{U16, U32, U64}

-- the bytes of a number, the lowest first
abbrev pub field_bytes : Field → List ℕ
field_bytes (U16 value) = little_bytes 2 value
field_bytes (U32 value) = little_bytes 4 value
field_bytes (U64 value) = little_bytes 8 value

-- the bytes of numbers, in order
unfoldable pub spelled : List Field → List ℕ
spelled [] = []
spelled (field ∷ fields) = field_bytes field ++ spelled fields
