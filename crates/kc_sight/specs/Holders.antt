-- The symbols whose words hold a value: pointers that the kernel keeps in variables of its own.
use Rattle.std.specs.Prelude.{ℕ, ◌%◌, ◌==◌, ◌&&◌, Bool, false, if◌then◌else◌, List, [], ◌∷◌, map, Option, Some, None, Result, Ok, Err}
use Rattle.kc_memory.specs.declared.words.VWord.{VWord}
use Rattle.kc_memory.specs.Image.{Image}
use Rattle.kc_memory.specs.Stopped.{Stopped}
use Rattle.kc_memory.specs.Translation.{vword}
use Rattle.kc_syms.specs.Addresses.{at_run}
use Rattle.kc_syms.specs.Rows.{RowText}
use Rattle.kc_sight.specs.declared.symbol.ImageParts.{ImageParts}
use Rattle.kc_sight.specs.Nearest.{SymbolAt, is_between, is_kept}

-- an address is in the image's data, by where this begins and ends, and isn't freed
abbrev pub in_data : ImageParts → ℕ → Bool
in_data parts address = is_between parts.text_end parts.end address && is_kept parts address

-- a word that is there has a value
abbrev pub has_value : ℕ → Result VWord Stopped → Bool
has_value value (Ok w) = w.value == value
has_value value (Err s) = false

-- the word at an address of the image's data has it
abbrev pub is_holder : Image → ImageParts → ℕ → ℕ → Bool
is_holder image parts value at = (at % 8 == 0) && in_data parts at && has_value value (vword image at)

-- the symbol of a row, where its word has it
abbrev pub holder_by : Image → ImageParts → ℕ → ℕ → Option RowText → Option SymbolAt
holder_by image parts kaslr value None = None
holder_by image parts kaslr value (Some row) =
    if is_holder image parts value (at_run kaslr row.listed) then Some (record { name = row.name; address = at_run kaslr row.listed })
    else None

abbrev pub with_holder : Option SymbolAt → List SymbolAt → List SymbolAt
with_holder None rest = rest
with_holder (Some s) rest = s ∷ rest

-- those of some lines, each a row or none, in their order
unfoldable pub holding : Image → ImageParts → ℕ → ℕ → List (Option RowText) → List SymbolAt
holding image parts kaslr value [] = []
holding image parts kaslr value (row ∷ rows) = with_holder (holder_by image parts kaslr value row) (holding image parts kaslr value rows)

-- those of a map's rows
abbrev pub holders : Image → ImageParts → ℕ → ℕ → List RowText → List SymbolAt
holders image parts kaslr value rows = holding image parts kaslr value (map (λ (row : RowText). Some row) rows)
