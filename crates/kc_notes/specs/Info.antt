-- What VMCOREINFO says of the kernel's memory (the kernel's kdump documents, "VMCOREINFO").
use Rattle.std.specs.Prelude.{ℕ, ◌+◌, ◌%◌, ◌^◌, ℤ, pos, negsuc, Bool, true, false, ◌&&◌, ◌==◌, nat_lt, List, codes, Option, Some, None, option_and_then, option_map, Result, Ok, Err, if◌then◌else◌}
use Rattle.std.specs.Int.{cast_unsigned, w64}
use Rattle.std.specs.Option.{option_or}
use Rattle.kc_word.specs.Decimal.{decimal_number}
use Rattle.kc_word.specs.Hex.{hex_number}
use Rattle.kc_notes.specs.declared.fault.NoteFault.{NoteFault}
use Rattle.kc_notes.specs.declared.fault.NoteFault.TheVariants.{V3, V4, V5, V6, V7}
use Rattle.kc_notes.specs.declared.fault.NoteKey.{NoteKey}
use Rattle.kc_notes.specs.declared.fault.NoteKey.TheVariants.{L5, Offset, Sme}
use Rattle.kc_notes.specs.declared.info.Info.{Info}
use Rattle.kc_notes.specs.Notes.{text_in}
use Rattle.kc_notes.specs.Values.{value_of}

infixl 10 ◌>>=◌
abbrev pub ◌>>=◌ : {A B : Type 0} → Result A NoteFault → (A → Result B NoteFault) → Result B NoteFault
(Ok x) >>= f = f x
(Err e) >>= f = Err e

-- the value, or a fault in place of none
abbrev pub present : {A : Type 0} → NoteFault → Option A → Result A NoteFault
present fault None = Err fault
present fault (Some x) = Ok x

-- A value that may be missing, and then is 0. One that isn't in order is a fault.
abbrev pub optional : {A : Type 0} → NoteKey → A → (List ℕ → Option A) → Option (List ℕ) → Result A NoteFault
optional key missing read None = Ok missing
optional key missing read (Some text) = present (V6 key) (read text)

-- The page size is 4096.
abbrev pub is_4096 : Option ℤ → Bool
is_4096 (Some (pos n)) = n == 4096
is_4096 (Some (negsuc n)) = false
is_4096 None = false

unfoldable pub page_size : List ℕ → Result ℕ NoteFault
page_size text =
    if is_4096 (option_and_then decimal_number (value_of (codes "PAGESIZE") text)) then Ok 4096 else Err V3

-- a decimal number as 64 bits, in two's complement
abbrev pub bits_of : List ℕ → Option ℕ
bits_of text = option_map (λ z. cast_unsigned w64 z) (decimal_number text)

-- where the kernel's image was loaded, less where it was built to be
unfoldable pub phys_base : List ℕ → Result ℕ NoteFault
phys_base text = present V4 (option_and_then bits_of (value_of (codes "NUMBER(phys_base)") text))

-- the value of the top page table, by its name of today or, where that is missing, of before
unfoldable pub top_value : List ℕ → Option (List ℕ)
top_value text = option_or (value_of (codes "SYMBOL(init_top_pgt)") text) (value_of (codes "SYMBOL(swapper_pg_dir)") text)

-- the address of the top page table in the kernel's image
unfoldable pub top_symbol : List ℕ → Result ℕ NoteFault
top_symbol text = present V5 (option_and_then hex_number (top_value text))

-- 0 or 1
abbrev pub flag_of : ℤ → Option Bool
flag_of (pos n) = if n == 0 then Some false else (if n == 1 then Some true else None)
flag_of (negsuc n) = None

-- whether there are five levels of page tables
unfoldable pub five_levels : List ℕ → Result Bool NoteFault
five_levels text = optional L5 false (λ value. option_and_then flag_of (decimal_number value)) (value_of (codes "NUMBER(pgtable_l5_enabled)") text)

-- how far the kernel's addresses were moved
unfoldable pub kernel_offset : List ℕ → Result ℕ NoteFault
kernel_offset text = optional Offset 0 hex_number (value_of (codes "KERNELOFFSET") text)

-- only bits 51 to 12 are set
abbrev pub mask_of : ℕ → Option ℕ
mask_of n = if (n % 4096 == 0) && nat_lt n (2 ^ 52) then Some n else None

-- the bits of a decimal number, where only those are set
unfoldable pub mask_in : List ℕ → Option ℕ
mask_in text = option_and_then mask_of (bits_of text)

-- the bits that memory encryption sets
unfoldable pub sme_mask : List ℕ → Result ℕ NoteFault
sme_mask text = optional Sme 0 mask_in (value_of (codes "NUMBER(sme_mask)") text)

-- The physical address of the top page table, in 64 bits: the kernel's image stands at 0xffffffff80000000,
-- which is 2^64 - 2^31.
abbrev pub table_address : ℕ → ℕ → ℕ
table_address symbol base = (symbol + 2 ^ 31 + base) % 2 ^ 64

-- It is a multiple of 4096 and below 2^52.
unfoldable pub top_table : ℕ → ℕ → Result ℕ NoteFault
top_table symbol base =
    if (table_address symbol base % 4096 == 0) && nat_lt (table_address symbol base) (2 ^ 52)
    then Ok (table_address symbol base) else Err V7

-- what the text of VMCOREINFO says, or its first fault
unfoldable pub info_of : List ℕ → Result Info NoteFault
info_of text = do
  page ← page_size text
  base ← phys_base text
  symbol ← top_symbol text
  five ← five_levels text
  kaslr ← kernel_offset text
  sme ← sme_mask text
  table ← top_table symbol base
  Ok (record {
    table = table;
    five = five;
    sme = sme;
    kaslr = kaslr;
    phys_base = base;
  })

-- what the notes of a core file say of the kernel's memory, or the first fault
abbrev pub info : List (List ℕ) → Result Info NoteFault
info parts = text_in parts >>= info_of
