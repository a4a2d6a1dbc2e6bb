-- What a command line asks for.
use Rattle.std.specs.Prelude.{◌≡◌, ⊤, ℕ, nat_eq, if◌then◌else◌, List, [], ◌∷◌, find, Option, Some, None, option_and_then, option_map}
use Rattle.kc_outside.specs.declared.store.Slot.{Slot}
use Rattle.kc_outside.specs.Files.{Files, slot_number}
use Rattle.kc_command.specs.Made.{Made}

-- a file of a command: its slot, and the word that names it
pub record Named : Type 0 where
  pub slot : Slot
  pub name : List ℕ

-- the files of a command in the order in which they are read, and what is made of their bytes to be shown
pub record Asked (A : Type 0) : Type 0 where
  pub named : List Named
  pub made : (Slot → Option (List ℕ)) → Made A

-- the name in a slot
abbrev pub name_in : {A : Type 0} → Asked A → Slot → Option (List ℕ)
name_in asked slot = option_map (λ n. n.name) (find (λ n. nat_eq (slot_number n.slot) (slot_number slot)) asked.named)

-- what the names of a command stand for in a store
abbrev pub asked_files : {A : Type 0} → Asked A → Files → Slot → Option (List ℕ)
asked_files asked files slot = option_and_then (files slot) (name_in asked slot)

-- the same where there may be no command
abbrev pub word_in : {A : Type 0} → Option (Asked A) → Slot → Option (List ℕ)
word_in asked slot = option_and_then (λ a. name_in a slot) asked

-- the files after the one in a slot
abbrev pub behind_slot : Slot → List Named → List Named
behind_slot slot [] = []
behind_slot slot (n ∷ ns) = if nat_eq (slot_number n.slot) (slot_number slot) then ns else behind_slot slot ns

abbrev pub behind : Option Slot → List Named → List Named
behind None named = []
behind (Some slot) named = behind_slot slot named

-- the slots of these files are as before
abbrev pub AllStay : {X : Type 0} → List Named → (Slot → X) → (Slot → X) → Type 0
AllStay [] old new = ⊤
AllStay (n ∷ ns) old new = (new n.slot ≡ old n.slot) × AllStay ns old new
