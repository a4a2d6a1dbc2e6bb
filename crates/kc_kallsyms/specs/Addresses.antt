-- The addresses of symbols. Source: kernel/kallsyms.c, kallsyms_sym_address; scripts/kallsyms.c, --absolute-percpu.
use Rattle.std.specs.Prelude.{ℕ, ◌+◌, ◌-◌, ◌^◌, ◌%◌, ◌==◌, nat_lt, nat_le, Bool, true, false, if◌then◌else◌, List, find, Option, Some, None, option_map}
use Rattle.std.specs.Str.{bytes_eq}
use Rattle.kc_kallsyms.specs.declared.reading.Reading.{Reading}
use Rattle.kc_kallsyms.specs.declared.reading.Reading.TheVariants.{Absolute, Relative}
use Rattle.kc_kallsyms.specs.Symbols.{Symbol}

-- The address that an offset of 32 bits gives. With CONFIG_KALLSYMS_ABSOLUTE_PERCPU, as up to 6.14 on x86-64 with SMP, it is a number
-- with a sign: one that isn't below 0 is the address itself, and one below 0 counts down from the base less 1. Without it, as from 6.15
-- on, it is counted from the base up.
abbrev pub address : Reading → ℕ → ℕ → ℕ
address Absolute base offset = if nat_lt offset (2 ^ 31) then offset else ((base + (2 ^ 32 - 1 - offset)) % 2 ^ 64)
address Relative base offset = (base + offset) % 2 ^ 64

-- the offset of the first symbol of a name
abbrev pub is_named : List ℕ → Symbol → Bool
is_named name s = bytes_eq s.name name

abbrev pub offset_of : List ℕ → List Symbol → Option ℕ
offset_of name symbols = option_map (λ s. s.offset) (find (is_named name) symbols)

-- No field tells which reading is right: it is the one that gives `_stext` the address that the note has. Where neither does, or both do,
-- there is none.
abbrev pub fits : ℕ → ℕ → ℕ → Reading → Bool
fits text base offset reading = address reading base offset == text

abbrev pub fitting : Bool → Bool → Option Reading
fitting true false = Some Absolute
fitting false true = Some Relative
fitting true true = None
fitting false false = None

unfoldable pub reading_by : ℕ → ℕ → Option ℕ → Option Reading
reading_by text base None = None
reading_by text base (Some offset) = fitting (fits text base offset Absolute) (fits text base offset Relative)

-- An address as linked, which a System.map lists. KASLR moves the kernel's image, which is linked to stand at 0xffffffff80000000 and above.
abbrev pub linked : ℕ → ℕ → ℕ
linked kaslr at = if nat_le (0xffffffff80000000 + kaslr) at then at - kaslr else at
