-- Fields that a kernel may lack, and that may not be readable.
use Rattle.std.specs.Prelude.{ℕ, Option, Some, None, option_map}
use Rattle.kc_memory.specs.Image.{Image}
use Rattle.kc_layout.specs.declared.place.Field.{Field}
use Rattle.kc_view.specs.Fields.{field_of, value_of}
use Rattle.kc_found.specs.Nodes.{readable}

-- the number of a field, where the kernel has it and it can be read
abbrev pub known : Image → ℕ → Option Field → Option ℕ
known image at None = None
known image at (Some field) = option_map value_of (readable (field_of image at field))
