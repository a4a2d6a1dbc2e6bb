-- What the files of a store hold.
use Rattle.std.specs.Prelude.{◌≡◌, ℕ, List, length, take, drop, Option, Some, None, option_and_then, not, nat_eq, IsTrue, ⊤}
use Rattle.kc_outside.specs.declared.store.Slot.{Slot}
use Rattle.kc_outside.specs.declared.store.Slot.TheVariants.{Dump, Btf, Map, Plan, Report, Module}

-- for each slot what each name stands for there, or None where there is no such file
abbrev pub Files : Type 0
Files = Slot → List ℕ → Option (List ℕ)

-- the bytes of the name that a slot holds, where files are told
abbrev pub content : Option Files → Slot → Option (List ℕ) → Option (List ℕ)
content None slot name = None
content (Some files) slot name = option_and_then (files slot) name

-- the bytes of a name in a slot, where files are told
abbrev pub named : Option Files → Slot → List ℕ → Option (List ℕ)
named files slot name = content files slot (Some name)

-- the place of a slot in the list of all
abbrev pub slot_number : Slot → ℕ
slot_number Dump = 0
slot_number Btf = 1
slot_number Map = 2
slot_number Plan = 3
slot_number Report = 4
slot_number Module = 5

-- two slots aren't the same
abbrev pub IsOther : Slot → Slot → Type 0
IsOther slot other = IsTrue (not (nat_eq (slot_number slot) (slot_number other)))

-- what is said of the other slots is as it was
abbrev pub OthersStay : {X : Type 0} → Slot → (Slot → X) → (Slot → X) → Type 0
OthersStay slot old new = (other : Slot) → IsOther slot other → new other ≡ old other

-- a file whose bytes are told has this length
abbrev pub HasLength : Option (List ℕ) → ℕ → Type 0
HasLength None n = ⊤
HasLength (Some bytes) n = n ≡ length bytes

-- the buffer holds these many bytes of the file from an offset on, where its bytes are told
abbrev pub HasPart : Option (List ℕ) → ℕ → ℕ → List ℕ → Type 0
HasPart None offset count buffer = ⊤
HasPart (Some bytes) offset count buffer = buffer ≡ take count (drop offset bytes)
