-- What the code's looks at memory are.
use Rattle.std.specs.Prelude.{◌≡◌, ⊤, ℕ, List, Option, Some, None, Result, Ok, Err}
use Rattle.kc_command.specs.declared.halt.Halt.{Halt}
use Rattle.kc_command.specs.declared.halt.Halt.TheVariants.{Store, Memory}
use Rattle.kc_memory.specs.Image.{Image}
use Rattle.kc_memory.specs.Translation.{vword}
use Rattle.kc_sight.specs.declared.aliases.Rules.{Rules}
use Rattle.kc_found.specs.declared.failed.ReadFailed.{ReadFailed}
use Rattle.kc_found.specs.declared.failed.ReadFailed.TheVariants.{Fault, NoMemory}
use Rattle.kc_sight.specs.declared.entries.TableEntry.{TableEntry}
use Rattle.kc_sight.specs.Aliases.{aliases}
use Rattle.kc_sight.specs.Looks.{words}
use Rattle.kc_sight.specs.Sights.{near, page_start, sight, word_start}
use Rattle.kc_sight.specs.Views.{sight_view}
use Rattle.kc_told.specs.declared.told.Sighted.{Sighted}
use Rattle.kc_told.specs.Near.{near_of}
use Rattle.kc_told.specs.Objects.{Shapes, told_of}
use Rattle.kc_told.specs.Views.{told_view}

-- a failure to read is one of the store
abbrev pub halted : ReadFailed → Halt
halted Fault = Store
halted NoMemory = Memory

-- what is seen and told of an address, over these entries of the page tables
pub record IsSeen (image : Image) (rules : Rules) (shapes : Shapes) (address : ℕ) (entries : List TableEntry) (s : Sighted) : Type 0 where
  pub address_is : s.sight.address ≡ address
  pub entries_are : s.sight.entries.items ≡ entries
  pub word : s.sight.word ≡ vword image (word_start address)
  pub aliases_are : s.sight.aliases ≡ aliases image rules (vword image (word_start address))
  pub near_are : s.sight.near.items ≡ near image address
  pub page : s.sight.page.items ≡ words image (page_start address) 512
  pub told : told_view s.told ≡ told_of image shapes address
  pub leads : s.near.items ≡ near_of image shapes address

-- short of a failure and of being out of memory, what is seen is the sight of an address
abbrev pub IsSight : {E : Type 0} → Image → Rules → ℕ → Result Sighted E → Type 0
IsSight image rules address (Ok s) = sight_view s.sight ≡ sight image rules address
IsSight image rules address (Err e) = ⊤

-- where the memory is told
abbrev pub SightsAs : {E : Type 0} → Option Image → Rules → ℕ → Result Sighted E → Type 0
SightsAs None rules address r = ⊤
SightsAs (Some image) rules address r = IsSight image rules address r

-- and what is told is what a kernel tells of the address
abbrev pub IsTold : {E : Type 0} → Image → Shapes → ℕ → Result Sighted E → Type 0
IsTold image shapes address (Ok s) = told_view s.told ≡ told_of image shapes address
IsTold image shapes address (Err e) = ⊤

abbrev pub TellsAs : {E : Type 0} → Option Image → Shapes → ℕ → Result Sighted E → Type 0
TellsAs None shapes address r = ⊤
TellsAs (Some image) shapes address r = IsTold image shapes address r

-- and what the words beside the address lead to is what a kernel tells of them
abbrev pub LeadsTo : {E : Type 0} → Image → Shapes → ℕ → Result Sighted E → Type 0
LeadsTo image shapes address (Ok s) = s.near.items ≡ near_of image shapes address
LeadsTo image shapes address (Err e) = ⊤

abbrev pub LeadsAs : {E : Type 0} → Option Image → Shapes → ℕ → Result Sighted E → Type 0
LeadsAs None shapes address r = ⊤
LeadsAs (Some image) shapes address r = LeadsTo image shapes address r
