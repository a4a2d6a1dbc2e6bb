-- Words near a violation over which something was written.
use Rattle.std.specs.Prelude.{ℕ, zero, suc, ◌*◌, ◌/◌, Bool, true, false, if◌then◌else◌, List, [], ◌++◌, codes, Option, Some, None, option_and_then}
use Rattle.std.specs.Option.{option_map_or}
use Rattle.kc_memory.specs.declared.rule.Rule.{Rule}
use Rattle.kc_memory.specs.declared.rule.Rule.TheVariants.{X5, X6}
use Rattle.kc_memory.specs.declared.words.VWord.{VWord}
use Rattle.kc_memory.specs.Image.{Image}
use Rattle.kc_memory.specs.Translation.{vword}
use Rattle.kc_found.specs.Nodes.{at_offset, readable}
use Rattle.kc_found.specs.Violations.{Violation}
use Rattle.kc_sight.specs.declared.meaning.Meaning.{Meaning}
use Rattle.kc_sight.specs.declared.meaning.Meaning.TheVariants.{Pattern, Text}
use Rattle.kc_sight.specs.Meanings.{meaning}
use Rattle.kc_cause.specs.Came.{word_part}

-- a word that is text, or one byte that the kernel fills memory with: no pointer and no number that a structure has
abbrev pub is_written : Meaning → Bool
is_written (Pattern b) = true
is_written Text = true
is_written _ = false

-- such a word
abbrev pub if_written : VWord → Option VWord
if_written w = if is_written (meaning w.va w.value) then Some w else None

abbrev pub written_at : Image → ℕ → Option VWord
written_at image at = option_and_then if_written (readable (vword image at))

abbrev pub or_word : Option VWord → Option VWord → Option VWord
or_word (Some w) other = Some w
or_word None other = other

-- the first of so many from an address on
unfoldable pub first_written : ℕ → Image → ℕ → Option VWord
first_written zero image at = None
first_written (suc more) image at = or_word (written_at image at) (first_written more image (at_offset at 8))

-- The numbers of an xarray's node count its slots, which come after them. Source: the kernel's include/linux/xarray.h, `struct xa_node`: a word with these
-- numbers, four others, and 64 slots (XA_CHUNK_SIZE).
abbrev pub is_of_slots : Rule → Bool
is_of_slots X5 = true
is_of_slots X6 = true
is_of_slots _ = false

abbrev pub slot_of : Image → Violation → Option VWord
slot_of image v = if is_of_slots v.rule then first_written 69 image (v.at / 8 * 8) else None

-- the columns of a place
abbrev pub slot_line : VWord → List ℕ
slot_line w = codes "slot " ++ word_part w ++ codes "\n"
