-- What a word says by itself, where nothing is known of its type.
-- Source: the kernel's include/linux/poison.h: LIST_POISON1 and LIST_POISON2, POISON_INUSE (5a), POISON_FREE (6b), POISON_END (a5),
-- PAGE_POISON (aa), SLUB_RED_INACTIVE (bb), SLUB_RED_ACTIVE and POISON_FREE_INITMEM (cc).
use Rattle.std.specs.Prelude.{ℕ, ◌*◌, ◌%◌, ◌==◌, ◌&&◌, ◌||◌, Bool, not, nat_le, nat_lt, if◌then◌else◌, List, length, take, drop, take_while, count_by}
use Rattle.std.specs.Int.{to_le_bytes, w64}
use Rattle.std.specs.List.{list_all}
use Rattle.kc_found.specs.Nodes.{is_poison}
use Rattle.kc_sight.specs.declared.meaning.Meaning.{Meaning}
use Rattle.kc_sight.specs.declared.meaning.Meaning.TheVariants.{Zero, Own, Unlisted, Pattern, Text, Small, Number}

-- a byte that the kernel fills memory with
abbrev pub is_pattern : ℕ → Bool
is_pattern b = (b == 0x5a) || (b == 0x6b) || (b == 0xa5) || (b == 0xaa) || (b == 0xbb) || (b == 0xcc)

-- eight bytes that are the same, one of those
abbrev pub is_filled : ℕ → Bool
is_filled value = (value == 0x0101010101010101 * (value % 256)) && is_pattern (value % 256)

-- a visible character of ASCII, or a space
abbrev pub is_visible : ℕ → Bool
is_visible c = nat_le 0x20 c && nat_le c 0x7e

-- the same, a tab, or the end of a line: LF or CR
abbrev pub is_text_byte : ℕ → Bool
is_text_byte c = is_visible c || (c == 0x9) || (c == 0xa) || (c == 0xd)

abbrev pub is_nul : ℕ → Bool
is_nul c = c == 0

-- how many bytes come before the first NUL
abbrev pub text_length : List ℕ → ℕ
text_length bytes = length (take_while (λ c. not (is_nul c)) bytes)

-- text, behind which only NULs come: of five bytes at least, so that no number of 32 bits is one, and at least four of them are visible
abbrev pub is_text_of : List ℕ → Bool
is_text_of bytes =
    nat_le 5 (text_length bytes) && nat_le 4 (count_by is_visible bytes)
    && list_all is_text_byte (take (text_length bytes) bytes) && list_all is_nul (drop (text_length bytes) bytes)

-- in the order of the file
abbrev pub is_text : ℕ → Bool
is_text value = is_text_of (to_le_bytes w64 value)

-- what a word says that stands at a virtual address: the first of these
abbrev pub meaning : ℕ → ℕ → Meaning
meaning va value =
    if value == 0 then Zero
    else (if value == va then Own
    else (if is_poison value then Unlisted
    else (if is_filled value then Pattern (value % 256)
    else (if is_text value then Text
    else (if nat_lt value 65536 then Small
    else Number)))))
