-- The memory of a dump as plain data, and its physical words.
-- Source: ELF-64 object files (gABI), "Program Header". Where segments overlap, the first one counts. The bytes that a
-- segment has in memory and not in the file are its tail; gABI says that they hold zero, and a dump may have left out
-- others there, so it is said from outside whether they read as zero or are absent.
use Rattle.std.specs.Prelude.{ℕ, ◌+◌, ◌-◌, Bool, true, false, ◌&&◌, nat_le, if◌then◌else◌, List, drop, find, Option, Some, None, option_map}
use Rattle.std.specs.List.{list_any}
use Rattle.std.specs.Option.{option_or}
use Rattle.byteorder.specs.Endian.{little_number}
use Rattle.kc_word.specs.declared.plain.Segment.{Segment}
use Rattle.kc_word.specs.declared.plain.PageCfg.{PageCfg}
use Rattle.kc_word.specs.declared.plain.Tail.{Tail}
use Rattle.kc_word.specs.declared.plain.Tail.TheVariants.{Absent, Zero}
use Rattle.kc_memory.specs.declared.words.Origin.TheVariants as origin
use Rattle.kc_memory.specs.declared.words.PWord.{PWord}

-- the file's bytes, its PT_LOAD program headers in table order, and how their tails read
pub record Physical : Type 0 where
  pub bytes : List ℕ
  pub segments : List Segment
  pub tail : Tail

-- physical memory, and how virtual addresses are translated
pub record Image : Type 0 where
  pub physical : Physical
  pub paging : PageCfg

-- a segment's file bytes hold all eight bytes from a physical address on
abbrev pub holds : ℕ → Segment → Bool
holds pa s = nat_le s.paddr pa && nat_le (pa + 8) (s.paddr + s.filesz)

-- the first segment that does
abbrev pub holder : ℕ → List Segment → Option Segment
holder pa segments = find (holds pa) segments

-- the file offset of a physical address of a segment
abbrev pub offset_in : ℕ → Segment → ℕ
offset_in pa s = s.offset + (pa - s.paddr)

-- the word at a file offset
abbrev pub word_at : List ℕ → ℕ → PWord
word_at bytes offset = record { value = little_number 8 (drop offset bytes); off = origin.File offset }

-- the word at a physical address in the file, where a segment's file bytes hold it
abbrev pub file_word : Physical → ℕ → Option PWord
file_word physical pa = option_map (λ s. word_at physical.bytes (offset_in pa s)) (holder pa physical.segments)

-- a segment's tail has all eight bytes: they come after its file bytes, inside its memory
abbrev pub in_tail : ℕ → Segment → Bool
in_tail pa s = nat_le (s.paddr + s.filesz) pa && nat_le (pa + 8) (s.paddr + s.memsz)

-- a word of a tail
abbrev pub zero_word : PWord
zero_word = record { value = 0; off = origin.Tail }

abbrev pub reads_zero : Tail → Bool
reads_zero Absent = false
reads_zero Zero = true

-- the word at a physical address in a tail, where tails read as zero
abbrev pub tail_word : Tail → ℕ → List Segment → Option PWord
tail_word tail pa segments = if reads_zero tail && list_any (in_tail pa) segments then Some zero_word else None

-- the word at a physical address, where the dump has it: bytes of the file come before any tail
abbrev pub pword : Physical → ℕ → Option PWord
pword physical pa = option_or (file_word physical pa) (tail_word physical.tail pa physical.segments)
