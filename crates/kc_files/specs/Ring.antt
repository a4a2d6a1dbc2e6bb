-- What the list of modules says of a dump: it is the kernel's ring of modules, all of it, and each line has what a module's struct has there.
use Rattle.std.specs.Prelude.{◌≡◌, ℕ, ◌+◌, ◌%◌, ◌^◌, ◌<◌, ◌==◌, List, [], ◌∷◌, length, get_or, codes, Some, Ok}
use Rattle.std.specs.List.{before_first, flat_map}
use Rattle.kc_bytes.specs.Bytes.{onward}
use Rattle.kc_memory.specs.Image.{Image}
use Rattle.kc_btf.specs.Btf.{Types, btf}
use Rattle.kc_kallsyms.specs.declared.places.Places.{Places}
use Rattle.kc_kallsyms.specs.Addresses.{offset_of}
use Rattle.kc_kallsyms.specs.Bytes.{eight_at, four_at}
use Rattle.kc_kallsyms.specs.Map.{Kernel, kernel_at}
use Rattle.kc_kallsyms.specs.Types.{address_by}
use Rattle.kc_modules.specs.declared.shape.ModuleFields.{ModuleFields}
use Rattle.kc_modules.specs.Lines.{Entry, line, modules_at}
use Rattle.kc_modules.specs.Parts.{back}
use Rattle.kc_modules.specs.Shapes.{module_fields}
use Rattle.kc_files.specs.Laws.{BytesStand, LieBetween}

-- From an address on the first word of each node (`list.next`) leads to these nodes in this order, and that of the last one back to the head.
-- None of them is the head.
abbrev pub LeadsRound : Image → ℕ → ℕ → List ℕ → Type 0
LeadsRound image head at [] = eight_at image at ≡ Ok head
LeadsRound image head at (node ∷ nodes) = (eight_at image at ≡ Ok node) × ((node ≡ head → ⊥) × LeadsRound image head node nodes)

-- none of them stands there twice
abbrev pub Once : List ℕ → Type 0
Once nodes = (i j : ℕ) → i < j → j < length nodes → get_or nodes i 0 ≡ get_or nodes j 0 → ⊥

-- numbers of four bytes stand in the dump, so many bytes apart, and their sum
abbrev pub FoursStand : Image → ℕ → ℕ → List ℕ → Type 0
FoursStand image stride at [] = Unit {0}
FoursStand image stride at (n ∷ ns) = (four_at image at ≡ Ok n) × FoursStand image stride (onward at stride) ns

abbrev pub total : List ℕ → ℕ
total [] = 0
total (n ∷ ns) = n + total ns

-- What is listed is what the `struct module` of a node has: a name, the sum of its parts' sizes, the address of the first part.
pub record IsModule (image : Image) (fields : ModuleFields) (node : ℕ) (entry : Entry) : Type 0 where
  pub name : List ℕ
  pub sizes : List ℕ
  pub long : length name ≡ 56
  pub stand : BytesStand image (onward (back node fields.list) fields.name) name
  pub named : entry.name ≡ before_first (λ c. c == 0) name
  pub parts : length sizes ≡ fields.parts.count
  pub sized : FoursStand image fields.parts.stride (onward (back node fields.list) fields.parts.size) sizes
  pub size : entry.size ≡ total sizes % 2 ^ 64
  pub based : eight_at image (onward (back node fields.list) fields.parts.base) ≡ Ok entry.base

-- one after the other, of each node and of no other
abbrev pub AreModules : Image → ModuleFields → List ℕ → List Entry → Type 0
AreModules image fields [] [] = Unit {0}
AreModules image fields (node ∷ nodes) (entry ∷ entries) = IsModule image fields node entry × AreModules image fields nodes entries
AreModules image fields nodes entries = ⊥

-- The text has a line for each module of the ring that begins at the kernel's symbol `modules`, in the ring's order.
pub record ListsRing (image : Image) (kernel : Kernel) (text : List ℕ) : Type 0 where
  pub head : ℕ
  pub own : List ℕ
  pub types : Types
  pub fields : ModuleFields
  pub nodes : List ℕ
  pub entries : List Entry
  pub begins : address_by kernel.frame (offset_of (codes "modules") kernel.symbols) ≡ Some head
  pub lie : LieBetween image kernel (codes "__start_BTF") (codes "__stop_BTF") own
  pub sound : btf own ≡ Ok types
  pub placed : module_fields types ≡ Ok fields
  pub round : LeadsRound image head head nodes
  pub once : Once nodes
  pub modules : AreModules image fields nodes entries
  pub spelled : text ≡ flat_map line entries

abbrev pub ModulesAreTheRing : Type 0
ModulesAreTheRing =
    (image : Image) (kaslr : ℕ) (places : Places) (text : List ℕ) → modules_at image kaslr places ≡ Ok text
    → (kernel : Kernel) × ((kernel_at image kaslr places ≡ Ok kernel) × ListsRing image kernel text)
