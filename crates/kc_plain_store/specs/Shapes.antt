-- What a view knows of the file in slot Dump.
use Rattle.std.specs.Prelude.{◌≡◌, ℕ, ◌+◌, ◌*◌, List, ◌++◌, Option, Some, None, vec_len}
use Rattle.kc_plain.specs.Pages.{pages}
use Rattle.kc_plain.specs.Unpack.Plain.{page_at}
use Rattle.kc_plain_store.specs.declared.plain_core.PlainCore.{PlainCore}
use Rattle.kc_plain_store.specs.declared.shape.PlainShape.{PlainShape}
use Rattle.kc_plain_store.specs.declared.shape.PlainShape.TheVariants.{Whole, Plain}

-- the plain core file of a dump's bytes
abbrev pub core_bytes : PlainCore → List ℕ → List ℕ
core_bytes core bytes = core.head.items ++ pages (page_at core.layout bytes) core.pages

abbrev pub core_size : PlainCore → ℕ
core_size core = vec_len core.head + 4096 * core.pages

-- how many bytes are seen
abbrev pub shape_size : PlainShape → ℕ
shape_size (Whole size) = size
shape_size (Plain core) = core_size core

-- how many bytes the file has
abbrev pub file_size : PlainShape → ℕ
file_size (Whole size) = size
file_size (Plain core) = core.file_size

-- what is seen of a file's bytes
abbrev pub shape_bytes : PlainShape → List ℕ → List ℕ
shape_bytes (Whole size) bytes = bytes
shape_bytes (Plain core) bytes = core_bytes core bytes
