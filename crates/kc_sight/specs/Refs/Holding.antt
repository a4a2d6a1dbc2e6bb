-- The words of a dump's file that hold what is looked for. Source: ELF-64 object files (gABI), "Program Header"; words are those at physical
-- addresses that are multiples of 8, and numbers are little-endian.
use Rattle.std.specs.Prelude.{ℕ, ◌+◌, ◌-◌, ◌*◌, ◌/◌, ◌%◌, ◌≤◌, List, [], ◌∷◌, ◌++◌, map, drop, Option, option_map}
use Rattle.std.specs.List.{filter_map, range_with_len}
use Rattle.byteorder.specs.Endian.{little_number}
use Rattle.kc_word.specs.declared.plain.Segment.{Segment}
use Rattle.kc_sight.specs.declared.refs.place.FoundWord.{FoundWord}
use Rattle.kc_sight.specs.declared.refs.place.WordPlace.{WordPlace}
use Rattle.kc_sight.specs.Refs.Writings.{Sought, writing}

-- how many bytes of a segment come before its first word
abbrev pub skipped : Segment → ℕ
skipped s = (8 - s.paddr % 8) % 8

-- how many words stand whole in its file bytes
abbrev pub word_count : Segment → ℕ
word_count s = (s.filesz - skipped s) / 8

-- word k of a segment, from 0 on
abbrev pub place : Segment → ℕ → WordPlace
place s k = record { pa = s.paddr + skipped s + 8 * k; off = s.offset + skipped s + 8 * k }

-- its words from one on, so many
abbrev pub places : Segment → ℕ → ℕ → List WordPlace
places s first count = map (place s) (range_with_len first count)

-- how the word at a place holds what is looked for, where it does
abbrev pub found_by : Sought → ℕ → WordPlace → Option FoundWord
found_by sought word p = option_map (λ w. record { place = p; value = word; writing = w }) (writing sought word p.pa)

-- by bytes that begin at a file offset
abbrev pub found_from : ℕ → List ℕ → Sought → WordPlace → Option FoundWord
found_from from bytes sought p = found_by sought (little_number 8 (drop (p.off - from) bytes)) p

-- by the file's bytes
abbrev pub found_at : Sought → List ℕ → WordPlace → Option FoundWord
found_at sought bytes p = found_by sought (little_number 8 (drop p.off bytes)) p

-- of a segment's words from one on, so many, those that hold it, by a block that begins with them
abbrev pub in_block : Sought → List ℕ → Segment → ℕ → ℕ → List FoundWord
in_block sought block s first count = filter_map (found_from (place s first).off block sought) (places s first count)

-- those of a segment that do, by rising place
abbrev pub in_segment : Sought → List ℕ → Segment → List FoundWord
in_segment sought bytes s = filter_map (found_at sought bytes) (places s 0 (word_count s))

-- and those of segments, one segment after the other
unfoldable pub in_segments : Sought → List ℕ → List Segment → List FoundWord
in_segments sought bytes [] = []
in_segments sought bytes (s ∷ others) = in_segment sought bytes s ++ in_segments sought bytes others

-- a segment's file bytes lie inside a file of this size
abbrev pub IsInside : ℕ → Segment → Type 0
IsInside size s = s.offset + s.filesz ≤ size

-- its last byte has a physical address of 64 bits
abbrev pub IsAddressed : Segment → Type 0
IsAddressed s = s.paddr + s.filesz ≤ 18446744073709551616
