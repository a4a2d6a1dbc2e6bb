-- What the files that are made of a dump say of it, in the words of the field.
use Rattle.std.specs.Prelude.{◌≡◌, ℕ, ◌+◌, ◌^◌, ◌<◌, ◌≤◌, List, [], ◌∷◌, length, map, codes, Some, Ok}
use Rattle.kc_bytes.specs.Bytes.{byte_in, onward, word_start}
use Rattle.kc_memory.specs.declared.words.VWord.{VWord}
use Rattle.kc_memory.specs.Image.{Image}
use Rattle.kc_memory.specs.Translation.{vword}
use Rattle.kc_syms.specs.Addresses.{at_run}
use Rattle.kc_syms.specs.Rows.{RowText, lines as lines_of}
use Rattle.kc_syms.specs.Spelling.{SpellAll}
use Rattle.kc_kallsyms.specs.declared.frame.RowFrame.{RowFrame}
use Rattle.kc_kallsyms.specs.declared.places.Places.{Places}
use Rattle.kc_kallsyms.specs.Addresses.{linked, offset_of}
use Rattle.kc_kallsyms.specs.Bytes.{eight_at, four_at}
use Rattle.kc_kallsyms.specs.Map.{Kernel, kernel_at, listed, map_at}
use Rattle.kc_kallsyms.specs.Symbols.{Symbol}
use Rattle.kc_kallsyms.specs.Types.{address_by, types_at}
use Rattle.kc_modules.specs.declared.shape.TypedShape.{TypedShape}
use Rattle.kc_modules.specs.Parts.{back}
use Rattle.kc_modules.specs.Typed.{module_types_at, named_at}

-- a byte is that of the word that holds it, and this word stands in the dump
pub record ByteStands (image : Image) (at byte : ℕ) : Type 0 where
  pub word : VWord
  pub stands : vword image (word_start at) ≡ Ok word
  pub is : byte ≡ byte_in at word.value

-- so are bytes one after the other
abbrev pub BytesStand : Image → ℕ → List ℕ → Type 0
BytesStand image at [] = Unit {0}
BytesStand image at (byte ∷ rest) = ByteStands image at byte × BytesStand image (onward at 1) rest

-- The bytes lie between two symbols of the kernel, and each is one of the dump's memory.
pub record LieBetween (image : Image) (kernel : Kernel) (first last bytes : List ℕ) : Type 0 where
  pub start : ℕ
  pub end : ℕ
  pub starts : address_by kernel.frame (offset_of first kernel.symbols) ≡ Some start
  pub ends : address_by kernel.frame (offset_of last kernel.symbols) ≡ Some end
  pub whole : start + length bytes ≡ end
  pub stand : BytesStand image start bytes

-- the types are the bytes from `__start_BTF` to `__stop_BTF`
abbrev pub TypesLieBetween : Type 0
TypesLieBetween =
    (image : Image) (kaslr : ℕ) (places : Places) (bytes : List ℕ) → types_at image kaslr places ≡ Ok bytes
    → (kernel : Kernel) × (kernel_at image kaslr places ≡ Ok kernel) × LieBetween image kernel (codes "__start_BTF") (codes "__stop_BTF") bytes

-- The bytes are those that the `struct btf` of a module with the name leads to, as many as it says, and each is one of the dump's memory.
pub record LieWhereSaid (image : Image) (shape : TypedShape) (name bytes : List ℕ) : Type 0 where
  pub node : ℕ
  pub types : ℕ
  pub start : ℕ
  pub named : named_at image shape node ≡ Ok name
  pub leads : eight_at image (onward (back node shape.list) shape.btf) ≡ Ok types
  pub starts : eight_at image (onward types shape.data_at) ≡ Ok start
  pub long : four_at image (onward types shape.size) ≡ Ok (length bytes)
  pub stand : BytesStand image start bytes

-- so do the types of a module
abbrev pub ModuleTypesLie : Type 0
ModuleTypesLie =
    (image : Image) (kaslr : ℕ) (places : Places) (name bytes : List ℕ) → module_types_at image kaslr places name ≡ Ok bytes
    → (shape : TypedShape) × LieWhereSaid image shape name bytes

-- An address of the kernel's image that a map lists as linked is that address again at run time.
abbrev pub LinkedRuns : Type 0
LinkedRuns = (kaslr at : ℕ) → 0xffffffff80000000 + kaslr ≤ at → at < 2 ^ 64 → at_run kaslr (linked kaslr at) ≡ at

-- the row of a symbol: the address that is listed for it, and its name
abbrev pub row_of : RowFrame → Symbol → RowText
row_of frame s = record { listed = listed frame s; name = s.name }

-- Each line of the map spells the row of its symbol, by what spells a row of a System.map, and there is no other line.
abbrev pub MapSpellsSymbols : Type 0
MapSpellsSymbols =
    (image : Image) (kaslr : ℕ) (places : Places) (text : List ℕ) → map_at image kaslr places ≡ Ok text
    → (kernel : Kernel) × (kernel_at image kaslr places ≡ Ok kernel) × SpellAll (lines_of text) (map (row_of kernel.frame) kernel.symbols)
