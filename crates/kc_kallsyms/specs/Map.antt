-- A map of the kernel in the form of its build's System.map (scripts/mksysmap), out of its own symbol table. That table lacks the symbols
-- of its own parts and most absolute ones (scripts/kallsyms.c, is_ignored_symbol), and orders the symbols at one address anew
-- (compare_symbols).
use Rattle.std.specs.Prelude.{ℕ, ◌&&◌, ◌==◌, nat_le, nat_lt, ◌^◌, Bool, false, if◌then◌else◌, List, [], ◌∷◌, ◌++◌, codes, Option, Some, None, Result, Ok}
use Rattle.std.specs.List.{flat_map}
use Rattle.kc_memory.specs.Image.{Image}
use Rattle.kc_text.specs.Text.{hex}
use Rattle.kc_kallsyms.specs.declared.fault.TableFault.TheVariants.{S9}
use Rattle.kc_kallsyms.specs.declared.frame.RowFrame.{RowFrame}
use Rattle.kc_kallsyms.specs.declared.places.Places.{Places}
use Rattle.kc_kallsyms.specs.declared.reading.Reading.{Reading}
use Rattle.kc_kallsyms.specs.declared.reading.Reading.TheVariants.{Absolute, Relative}
use Rattle.kc_kallsyms.specs.Addresses.{address, linked, offset_of, reading_by}
use Rattle.kc_kallsyms.specs.Reading.{◌>>=◌, Why, wanted}
use Rattle.kc_kallsyms.specs.Symbols.{Symbol, symbols_in}
use Rattle.kc_kallsyms.specs.Tables.{tables_at}

-- The kernel's table gives each variable of processors the letter A (scripts/kallsyms.c, make_percpus_absolute), and the build's map D or d.
-- Such a symbol is absolute, and isn't above the end of their area, `__per_cpu_end`: it gets D.
abbrev pub is_below : Option ℕ → ℕ → Bool
is_below None offset = false
is_below (Some end) offset = nat_le offset end && nat_lt offset (2 ^ 31)

abbrev pub is_of_processors : Reading → Option ℕ → Symbol → Bool
is_of_processors Absolute end s = (s.letter == 65) && is_below end s.offset
is_of_processors Relative end s = false

abbrev pub letter : RowFrame → Symbol → ℕ
letter frame s = if is_of_processors frame.reading frame.processors s then 68 else s.letter

-- the address as linked in 16 hex digits, a space, the letter, a space, the name and a newline
abbrev pub listed : RowFrame → Symbol → ℕ
listed frame s = linked frame.kaslr (address frame.reading frame.base s.offset)

abbrev pub line : RowFrame → Symbol → List ℕ
line frame s = hex (listed frame s) ++ 32 ∷ letter frame s ∷ 32 ∷ s.name ++ 10 ∷ []

-- those of all symbols, in their order
abbrev pub lines : RowFrame → List Symbol → List ℕ
lines frame symbols = flat_map (line frame) symbols

-- a kernel's symbols, and what their rows are made by
pub record Kernel : Type 0 where
  pub symbols : List Symbol
  pub frame : RowFrame

abbrev pub frame_of : ℕ → ℕ → Reading → List Symbol → RowFrame
frame_of base kaslr reading symbols = record {
  reading = reading;
  base = base;
  kaslr = kaslr;
  processors = offset_of (codes "__per_cpu_end") symbols;
}

-- the symbols at these places, where one of the two readings of their offsets is right
abbrev pub kernel_by : ℕ → ℕ → List Symbol → Option Reading → Result Kernel Why
kernel_by base kaslr symbols reading = wanted S9 reading >>= (λ r. Ok (record { symbols = symbols; frame = frame_of base kaslr r symbols }))

unfoldable pub kernel_at : Image → ℕ → Places → Result Kernel Why
kernel_at image kaslr places = do
  tables ← tables_at image places
  symbols ← symbols_in image places tables
  kernel_by tables.base kaslr symbols (reading_by places.text tables.base (offset_of (codes "_stext") symbols))

-- its map
unfoldable pub map_at : Image → ℕ → Places → Result (List ℕ) Why
map_at image kaslr places = kernel_at image kaslr places >>= (λ k. Ok (lines k.frame k.symbols))
