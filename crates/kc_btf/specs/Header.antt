-- The header of a file, version 1: the magic in two bytes, the version and the flags in one each, and then
-- five numbers of 32 bits: the header's length, and the place and the length of the types and of the
-- strings. The places count from the header's end. Flags and bytes behind the numbers are skipped.
-- Source: the kernel's document "BPF Type Format", "Type and String Encoding".
use Rattle.std.specs.Prelude.{◌≡◌, ◌<◌, ◌≤◌, ◌^◌, IsTrue, ℕ, ◌+◌, ◌-◌, Bool, List, length, Option, Some, None, ◌==◌, ◌&&◌, not, nat_lt, nat_le, if◌then◌else◌, slice_index, slice_range}
use Rattle.byteorder.specs.Endian.{little_number}
use Rattle.kc_btf.specs.declared.header.Header.{Header}
use Rattle.kc_btf.specs.declared.stop.BtfFault.{BtfFault}
use Rattle.kc_btf.specs.declared.stop.BRule.TheVariants.{B1, B2, B3, B4, B5}
use Rattle.kc_btf.specs.Answers.{first_of}
use Rattle.kc_btf.specs.Numbers.{word}

-- where the types begin, and where they end
abbrev pub types_at : List ℕ → ℕ
types_at bytes = word bytes 4 + word bytes 8

abbrev pub types_end : List ℕ → ℕ
types_end bytes = types_at bytes + word bytes 12

-- where the strings begin, and where they end
abbrev pub strings_at : List ℕ → ℕ
strings_at bytes = word bytes 4 + word bytes 16

abbrev pub strings_end : List ℕ → ℕ
strings_end bytes = strings_at bytes + word bytes 20

-- the bytes of the types, and of the strings
abbrev pub type_section : List ℕ → List ℕ
type_section bytes = slice_range bytes (types_at bytes) (types_end bytes)

abbrev pub string_section : List ℕ → List ℕ
string_section bytes = slice_range bytes (strings_at bytes) (strings_end bytes)

-- whether strings begin and end with a NUL
abbrev pub are_strings : List ℕ → Bool
are_strings s = nat_lt 0 (length s) && (slice_index s 0 == 0) && (slice_index s (length s - 1) == 0)

-- whether a header's length is a header's, and both sections lie inside the file
abbrev pub are_sections_inside : List ℕ → Bool
are_sections_inside bytes =
    nat_le 24 (word bytes 4) && nat_le (types_end bytes) (length bytes) && nat_le (strings_end bytes) (length bytes)

-- the first of the rules on a header's numbers that it breaks
unfoldable pub sections_fault : List ℕ → Option BtfFault
sections_fault bytes =
    if nat_lt (length bytes) 24 then Some (record { rule = B1; at = length bytes })
    else (if not (little_number 2 bytes == 0xeb9f) then Some (record { rule = B2; at = 0 })
    else (if not (slice_index bytes 2 == 1) then Some (record { rule = B3; at = 2 })
    else (if not (are_sections_inside bytes) then Some (record { rule = B4; at = 4 })
    else None)))

-- the rule on the strings, where they don't pass a test
abbrev pub strings_fault : (List ℕ → Bool) → List ℕ → Option BtfFault
strings_fault test bytes = if test (string_section bytes) then None else Some (record { rule = B5; at = strings_at bytes })

-- the first rule that a header breaks
unfoldable pub header_fault : List ℕ → Option BtfFault
header_fault bytes = first_of (sections_fault bytes) (strings_fault are_strings bytes)

-- the code's header says where the sections lie
pub record IsHeader (bytes : List ℕ) (header : Header) : Type 0 where
  pub types : header.types ≡ types_at bytes
  pub types_end : header.types_end ≡ types_end bytes
  pub strings : header.strings ≡ strings_at bytes
  pub strings_end : header.strings_end ≡ strings_end bytes

-- the sections lie inside a file
pub record AreInside (bytes : List ℕ) (header : Header) : Type 0 where
  pub types : header.types ≤ header.types_end
  pub types_end : header.types_end ≤ length bytes
  pub short : header.types_end - header.types < 2 ^ 32
  pub strings : header.strings ≤ header.strings_end
  pub strings_end : header.strings_end ≤ length bytes

-- the sections lie inside a file, and there are strings
pub record IsInside (bytes : List ℕ) (header : Header) : Type 0 where
  pub types : header.types ≤ header.types_end
  pub types_end : header.types_end ≤ length bytes
  pub short : header.types_end - header.types < 2 ^ 32
  pub strings_end : header.strings_end ≤ length bytes
  pub strings : IsTrue (are_strings (slice_range bytes header.strings header.strings_end))
