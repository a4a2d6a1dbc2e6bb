-- The memory of a dump.
use Rattle.std.specs.Prelude.{ℕ, List, [], Option, Some, None}
use Rattle.kc_word.specs.declared.plain.PageCfg.{PageCfg}
use Rattle.kc_word.specs.declared.plain.Segment.{Segment}
use Rattle.kc_word.specs.declared.plain.Tail.{Tail}
use Rattle.kc_word.specs.declared.plain.Tail.TheVariants.{Absent}
use Rattle.kc_memory.specs.Image.{Image}

-- The memory of a dump with these bytes and segments, by these page tables. The bytes that a segment has and the file leaves out read as
-- the tail says.
abbrev pub image_of : List ℕ → List Segment → Tail → PageCfg → Image
image_of bytes segments tail paging = record { physical = record { bytes = bytes; segments = segments; tail = tail }; paging = paging }

-- the same where what the dump leaves out is absent
abbrev pub bare_image : List ℕ → List Segment → PageCfg → Image
bare_image bytes segments paging = image_of bytes segments Absent paging

-- the bytes of a file, where it is there
abbrev pub bytes_of : Option (List ℕ) → List ℕ
bytes_of None = []
bytes_of (Some bytes) = bytes
