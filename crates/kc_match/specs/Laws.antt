-- What findings, facts and outcomes say, and what is said of the types.
use Rattle.std.specs.Prelude.{◌≡◌, ◌≢◌, ⊤, ℕ, ◌+◌, ◌≤◌, ℤ, pos, IsTrue, List, [], length, take, slice_get, Option, Some, None, Ok}
use Rattle.kc_btf.specs.Btf.{Types}
use Rattle.kc_layout.specs.Ends.{ByteAt, located}
use Rattle.kc_layout.specs.Size.{size}
use Rattle.kc_syms.specs.Addresses.{common_of}
use Rattle.kc_match.specs.declared.beside.TypesBeside.{TypesBeside}
use Rattle.kc_match.specs.declared.beside.TypesBeside.TheVariants as types
use Rattle.kc_match.specs.declared.outcome.Other.{Other}
use Rattle.kc_match.specs.declared.outcome.Other.TheVariants.{Map, Btf}
use Rattle.kc_match.specs.declared.outcome.Outcome.{Outcome}
use Rattle.kc_match.specs.declared.outcome.Outcome.TheVariants.{Same, Differs, Unknown}
use Rattle.kc_match.specs.Beside.{beside}
use Rattle.kc_match.specs.Facts.{Fact, Symbol, Size, Offset}
use Rattle.kc_match.specs.Findings.{Finding}
use Rattle.kc_match.specs.Named.{is_type_of}
use Rattle.kc_match.specs.Outcomes.{Compared, outcome}
use Rattle.kc_match.specs.Text.{differs_count, same_count, unknown_count}

-- each finding is counted once
abbrev pub CountsAddUp : Type 0
CountsAddUp = (found : List Finding) → same_count found + differs_count found + unknown_count found ≡ length found

-- the rows of a name have this address in common, and it is in the kernel's image
pub record TellsAddress (kernel : Compared) (name : List ℕ) (address : ℕ) : Type 0 where
  pub common : common_of kernel.kaslr (kernel.listed name) ≡ Ok address
  pub image : 0xffffffff80000000 ≤ address

-- a type of a name has this size
pub record TellsSize (types : Types) (name : List ℕ) (bytes : ℕ) : Type 0 where
  pub id : ℕ
  pub of : IsTrue (is_type_of types name id)
  pub sized : size types id ≡ Some bytes

-- a member of a type of a name begins at this byte of it, and no pointer leads there
pub record TellsByte (types : Types) (name member : List ℕ) (byte : ℕ) : Type 0 where
  pub named : member ≢ []
  pub id : ℕ
  pub of : IsTrue (is_type_of types name id)
  pub place : ByteAt
  pub leads : located types id member ≡ Ok place
  pub direct : place.hops ≡ []
  pub there : place.byte ≡ byte

-- the files tell this number of what a fact speaks of; they may tell several, where several types have its name
abbrev pub Tell : Compared → Fact → ℕ → Type 0
Tell kernel (Symbol name address) told = TellsAddress kernel name told
Tell kernel (Size name stated) told = TellsSize kernel.types name told
Tell kernel (Offset name member stated) told = TellsByte kernel.types name member told

-- the number that a fact states, and the one that a file tells
abbrev pub stated : Fact → ℤ
stated (Symbol name address) = pos address
stated (Size name size) = size
stated (Offset name member byte) = byte

abbrev pub number_of : Other → ℕ
number_of (Map address) = address
number_of (Btf count) = count

-- an address is compared where it is in the kernel's image, and other numbers always
abbrev pub IsCompared : Fact → Type 0
IsCompared (Symbol name address) = 0xffffffff80000000 ≤ address
IsCompared (Size name size) = ⊤
IsCompared (Offset name member byte) = ⊤

-- what an outcome says: the files tell the number that is stated; or they tell another one, and don't tell it; or they tell
-- none that is compared
abbrev pub Stands : Compared → Fact → Outcome → Type 0
Stands kernel fact Same = (told : ℕ) × Tell kernel fact told × (stated fact ≡ pos told)
Stands kernel fact (Differs other) =
    Tell kernel fact (number_of other) × ((told : ℕ) → Tell kernel fact told → stated fact ≢ pos told)
Stands kernel fact Unknown = (told : ℕ) → IsCompared fact → Tell kernel fact told → ⊥

abbrev pub OutcomesStand : Type 0
OutcomesStand = (kernel : Compared) (fact : Fact) → Stands kernel fact (outcome kernel fact)

-- two files have the same bytes before this one, and not this one: it is another, or one of them ends there
pub record DifferAt (file own : List ℕ) (at : ℕ) : Type 0 where
  pub before : take at file ≡ take at own
  pub here : slice_get file at ≢ slice_get own at

-- what is said of a file of types: it is what the dump holds, byte for byte; or it differs first at this byte; or the dump's aren't found
abbrev pub BesideStands : List ℕ → Option (List ℕ) → TypesBeside → Type 0
BesideStands file own types.Same = own ≡ Some file
BesideStands file own (types.Differs at) = (held : List ℕ) × (own ≡ Some held) × DifferAt file held at
BesideStands file own types.Unknown = own ≡ None

abbrev pub TypesStand : Type 0
TypesStand = (file : List ℕ) (own : Option (List ℕ)) → BesideStands file own (beside file own)
