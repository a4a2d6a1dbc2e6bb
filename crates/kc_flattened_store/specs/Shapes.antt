-- What is known of the file in slot Dump.
use Rattle.std.specs.Prelude.{ℕ, List}
use Rattle.kc_flattened.specs.Flat.{pasted}
use Rattle.kc_flattened_store.specs.declared.shape.FlatShape.{FlatShape}
use Rattle.kc_flattened_store.specs.declared.shape.FlatShape.TheVariants.{Whole, Flat}

-- how many bytes are seen
abbrev pub shape_size : FlatShape → ℕ
shape_size (Whole size) = size
shape_size (Flat file) = file.size

-- how many bytes the file has
abbrev pub file_size : FlatShape → ℕ
file_size (Whole size) = size
file_size (Flat file) = file.file_size

-- what is seen of a file's bytes
abbrev pub shape_bytes : FlatShape → List ℕ → List ℕ
shape_bytes (Whole size) bytes = bytes
shape_bytes (Flat file) bytes = pasted bytes file.records.items
