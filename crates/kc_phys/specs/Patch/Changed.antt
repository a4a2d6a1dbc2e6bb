-- A file with some of its words changed.
use Rattle.std.specs.Prelude.{◌≡◌, ℕ, suc, ◌+◌, ◌&&◌, Bool, nat_le, nat_lt, if◌then◌else◌, List, [], ◌∷◌, length, take, drop, slice_set, Option, Some, None, option_map}
use Rattle.std.specs.List.{list_any}
use Rattle.std.specs.Int.{to_le_bytes, w64}
use Rattle.kc_memory.specs.declared.words.Origin.{Origin}
use Rattle.kc_memory.specs.declared.words.Origin.TheVariants.{File, Tail}
use Rattle.kc_memory.specs.Image.{Physical}
use Rattle.kc_phys.specs.declared.patch.change.Change.{Change}

-- a file with its bytes from an offset on replaced by these, one by one, as far as it reaches; its length stays
unfoldable pub laid : ℕ → List ℕ → List ℕ → List ℕ
laid off [] file = file
laid off (b ∷ more) file = laid (suc off) more (slice_set file off b)

-- a file whose eight bytes from an offset on are those of a value, the lowest first
unfoldable pub changed : ℕ → ℕ → List ℕ → List ℕ
changed off value file = laid off (to_le_bytes w64 value) file

-- and with several words changed, one after the other, so that a later change lies over an earlier one
abbrev pub changed_all : List Change → List ℕ → List ℕ
changed_all [] file = file
changed_all (c ∷ later) file = changed_all later (changed c.off c.value file)

-- the bytes of a file with changes, where they are told
abbrev pub with_changes : List Change → Option (List ℕ) → Option (List ℕ)
with_changes changes bytes = option_map (changed_all changes) bytes

-- a buffer holds so many bytes of a file from an offset on
abbrev pub IsPart : List ℕ → ℕ → ℕ → List ℕ → Type 0
IsPart buffer count off file = buffer ≡ take count (drop off file)

-- a buffer that holds a file's bytes from an offset on holds those of another
abbrev pub BecomesPart : ℕ → (List ℕ → List ℕ) → List ℕ → List ℕ → Type 0
BecomesPart off become old new =
    (file : List ℕ) → IsPart old (length old) off file → IsPart new (length old) off (become file)

-- the memory of a dump whose file is changed so
abbrev pub patched : Change → Physical → Physical
patched change physical = record { bytes = changed change.off change.value physical.bytes; segments = physical.segments; tail = physical.tail }

-- and with several changes
abbrev pub patched_all : List Change → Physical → Physical
patched_all changes physical = record { bytes = changed_all changes physical.bytes; segments = physical.segments; tail = physical.tail }

-- the words of eight bytes at two places share a byte
abbrev pub share : ℕ → ℕ → Bool
share a b = nat_lt a (b + 8) && nat_lt b (a + 8)

-- the word at a file offset shares a byte with one of some changes
abbrev pub share_any : List Change → ℕ → Bool
share_any changes off = list_any (λ (c : Change). share off c.off) changes

-- the file offset of a word that ends at `end` at most, and shares a byte with one of them
abbrev pub changed_at : List Change → ℕ → Origin → Option ℕ
changed_at changes end (File off) = if nat_le (off + 8) end && share_any changes off then Some off else None
changed_at changes end Tail = None
