-- Whether a symbol has a name, by the first two bytes of it. Source: the kernel's kernel/module/kallsyms.c, `find_kallsyms_symbol`: a symbol without
-- a name, and one that is a mapping symbol, names nothing; include/linux/module_symbol.h, `is_mapping_symbol`: the names that begin with `$`, `.L`
-- or `L0`.
use Rattle.std.specs.Prelude.{ℕ, Bool, true, false, not, ◌==◌, ◌&&◌, ◌||◌, Option, Some, None}
use Rattle.kc_memory.specs.Image.{Image}
use Rattle.kc_found.specs.Nodes.{at_offset}
use Rattle.kc_owner.specs.Texts.{byte_at}

abbrev pub is_second : ℕ → Option ℕ → Bool
is_second wanted None = false
is_second wanted (Some second) = second == wanted

-- `$`, `.L`, `L0`
abbrev pub is_mapping : ℕ → Option ℕ → Bool
is_mapping first second = (first == 0x24) || ((first == 0x2e) && is_second 0x4c second) || ((first == 0x4c) && is_second 0x30 second)

-- one that can't be read may be a name
abbrev pub is_name : Option ℕ → Option ℕ → Bool
is_name None second = true
is_name (Some first) second = not (first == 0) && not (is_mapping first second)

abbrev pub is_named_at : Image → ℕ → Bool
is_named_at image at = is_name (byte_at image at) (byte_at image (at_offset at 1))
