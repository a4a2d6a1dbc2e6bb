-- What is found of a kernel before its map and its types are read.
use Rattle.std.specs.Prelude.{◌≡◌, ⊤, ℕ, List, codes, Option, Some, None, Result, Ok, Err}
use Rattle.kc_memory.specs.Image.{Image}
use Rattle.kc_kallsyms.specs.declared.kernel.Kernel.{Kernel as CodeKernel}
use Rattle.kc_kallsyms.specs.declared.places.Places.{Places}
use Rattle.kc_kallsyms.specs.declared.stop.TableStop.{TableStop}
use Rattle.kc_kallsyms.specs.Addresses.{offset_of}
use Rattle.kc_kallsyms.specs.Map.{kernel_at}
use Rattle.kc_kallsyms.specs.Reading.{Stops}
use Rattle.kc_kallsyms.specs.Symbols.{Symbol, symbols_in}
use Rattle.kc_kallsyms.specs.Views.{tables_view}

-- the symbols are there, with what their rows are made by, and the code has its tables and where its types and its lists of modules are
pub record IsFound (image : Image) (kaslr : ℕ) (places : Places) (found : CodeKernel) : Type 0 where
  pub symbols : List Symbol
  pub listed : symbols_in image places (tables_view found.tables) ≡ Ok symbols
  pub kernel : kernel_at image kaslr places ≡ Ok (record { symbols = symbols; frame = found.frame })
  pub start : found.marks.start ≡ offset_of (codes "__start_BTF") symbols
  pub end : found.marks.end ≡ offset_of (codes "__stop_BTF") symbols
  pub loaded : found.marks.loaded ≡ offset_of (codes "modules") symbols
  pub typed : found.marks.typed ≡ offset_of (codes "btf_modules") symbols

abbrev pub FindsAs : ℕ → Places → Option Image → Result CodeKernel TableStop → Type 0
FindsAs kaslr places None r = ⊤
FindsAs kaslr places (Some image) (Ok found) = IsFound image kaslr places found
FindsAs kaslr places (Some image) (Err stop) = Stops (kernel_at image kaslr places) stop
