-- The words at virtual addresses.
-- Source: Intel SDM volume 3A, chapter "Paging": four-level and five-level paging.
use Rattle.std.specs.Prelude.{ℕ, zero, suc, ◌+◌, ◌-◌, ◌*◌, ◌/◌, ◌%◌, ◌^◌, Bool, ◌&&◌, ◌||◌, if◌then◌else◌, not, nat_eq, nat_lt, nat_le, bit_and, Option, Some, None, Result, Ok, Err}
use Rattle.std.specs.Int.{bit_at}
use Rattle.kc_word.specs.declared.plain.PageCfg.{PageCfg}
use Rattle.kc_memory.specs.declared.rule.Rule.{Rule}
use Rattle.kc_memory.specs.declared.rule.Rule.TheVariants.{M1, M2, M3, M4, M5, M6}
use Rattle.kc_memory.specs.declared.words.PWord.{PWord}
use Rattle.kc_memory.specs.declared.words.VWord.{VWord}
use Rattle.kc_memory.specs.Stopped.{Stopped}
use Rattle.kc_memory.specs.Image.{Physical, Image, pword}

-- the second step, where the first one didn't stop
abbrev pub and_then : {A B : Type 0} → Result A Stopped → (A → Result B Stopped) → Result B Stopped
and_then (Ok a) go = go a
and_then (Err s) go = Err s

-- a stop at an address: the rule, the level and the physical address of the entry, and the entry
abbrev pub stop : {A : Type 0} → ℕ → Rule → ℕ → ℕ → Option PWord → Result A Stopped
stop va rule level pa entry = Err (record { va = va; rule = rule; level = level; pa = pa; entry = entry })

-- the nine bits of an address that choose the entry of a table: from bit 12 for a PTE, and nine bits higher
-- for each level above
abbrev pub index_at : ℕ → ℕ → ℕ
index_at level va = va / 2 ^ (12 + 9 * (level - 1)) % 512

-- the physical address of the entry
abbrev pub entry_address : ℕ → ℕ → ℕ → ℕ
entry_address level table va = table + 8 * index_at level va

-- an entry without the bits that memory encryption sets
abbrev pub cleared : ℕ → ℕ → ℕ
cleared mask entry = bit_and entry (2 ^ 64 - 1 - mask)

-- the address bits of an entry from a bit on up to bit 51, in their places
abbrev pub address_from : ℕ → ℕ → ℕ
address_from bit entry = entry % 2 ^ 52 / 2 ^ bit * 2 ^ bit

-- a bit is 1
abbrev pub is_set : ℕ → ℕ → Bool
is_set bit entry = nat_eq (bit_at entry bit) 1

-- A reserved bit: bit 7 of a PML5E or PML4E; with bit 7, bits 29 to 13 of a PDPTE and bits 20 to 13 of a PDE.
-- Bit 12 of a large page is its memory type.
abbrev pub has_reserved : ℕ → ℕ → Bool
has_reserved level entry =
    is_set 7 entry
    && (nat_le 4 level
    || (nat_eq level 3 && nat_lt 0 (entry % 2 ^ 30 / 2 ^ 13))
    || (nat_eq level 2 && nat_lt 0 (entry % 2 ^ 21 / 2 ^ 13)))

-- why an entry is refused: it isn't present, or a reserved bit is set
abbrev pub refusal : ℕ → ℕ → Option Rule
refusal level entry =
    if not (is_set 0 entry) then Some M4
    else (if has_reserved level entry then Some M5 else None)

-- where an entry leads: to a table of the level below, which at level 1 is a page, or to the physical address
-- of the virtual one, in a large page
pub data Way : Type 0 where
  Table : ℕ → Way
  Large : ℕ → Way

-- the physical address of a virtual one in a page whose offsets have these many bits
abbrev pub in_page : ℕ → ℕ → ℕ → ℕ
in_page bits entry va = address_from bits entry + va % 2 ^ bits

-- with bit 7, a PDPTE maps 1 GiB and a PDE 2 MiB
abbrev pub way : ℕ → ℕ → ℕ → Way
way level entry va =
    if is_set 7 entry && nat_eq level 3 then Large (in_page 30 entry va)
    else (if is_set 7 entry && nat_eq level 2 then Large (in_page 21 entry va)
    else Table (address_from 12 entry))

-- what an entry says, from which the bits of memory encryption are cleared: why it is refused, or where it leads.
-- A stop tells the word as it stands in the dump.
abbrev pub judged : ℕ → ℕ → ℕ → PWord → ℕ → Option Rule → Result Way Stopped
judged va level pa word entry (Some rule) = stop va rule level pa (Some word)
judged va level pa word entry None = Ok (way level entry va)

-- the same of a word that may be absent
abbrev pub entered_by : ℕ → ℕ → ℕ → ℕ → Option PWord → Result Way Stopped
entered_by mask va level pa None = stop va M3 level pa None
entered_by mask va level pa (Some word) = judged va level pa word (cleared mask word.value) (refusal level (cleared mask word.value))

-- where the entry at a level leads
abbrev pub entered : Physical → ℕ → ℕ → ℕ → ℕ → Result Way Stopped
entered physical mask va level table = entered_by mask va level (entry_address level table va) (pword physical (entry_address level table va))

-- on with the table of the level below, unless the page is reached
abbrev pub follow : Way → (ℕ → Result ℕ Stopped) → Result ℕ Stopped
follow (Table table) go = go table
follow (Large pa) go = Ok pa

-- the physical address of a virtual one, from a table of a level down. Level 0 is the page itself.
unfoldable pub xlate : Physical → ℕ → ℕ → ℕ → ℕ → Result ℕ Stopped
xlate physical mask va zero table = Ok (table + va % 4096)
xlate physical mask va (suc level) table = and_then (entered physical mask va (suc level) table) (λ w. follow w (xlate physical mask va level))

-- how many levels of tables there are
abbrev pub levels : PageCfg → ℕ
levels paging = if paging.five then 5 else 4

-- the number of bits of an address that the tables translate, less one: the bits from here on are equal
abbrev pub sign_bit : PageCfg → ℕ
sign_bit paging = if paging.five then 56 else 47

-- an address is canonical: its upper bits are equal
abbrev pub is_canonical : PageCfg → ℕ → Bool
is_canonical paging va = nat_lt va (2 ^ sign_bit paging) || nat_le (2 ^ 64 - 2 ^ sign_bit paging) va

-- the translation of an address
abbrev pub translated : Image → ℕ → Result ℕ Stopped
translated image va =
    if is_canonical image.paging va then xlate image.physical image.paging.sme va (levels image.paging) image.paging.table
    else stop va M2 0 0 None

-- the word at a physical address, unless it is absent
abbrev pub word_or_stop : ℕ → ℕ → Option PWord → Result VWord Stopped
word_or_stop va pa None = stop va M6 0 pa None
word_or_stop va pa (Some word) = Ok (record { va = va; pa = pa; off = word.off; value = word.value })

-- the word at a virtual address
unfoldable pub vword : Image → ℕ → Result VWord Stopped
vword image va =
    if nat_eq (va % 8) 0 then and_then (translated image va) (λ pa. word_or_stop va pa (pword image.physical pa))
    else stop va M1 0 0 None
