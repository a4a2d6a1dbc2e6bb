-- What is sought in the memory of a dump.
use Rattle.std.specs.Prelude.{ℕ, List}
use Rattle.kc_notes.specs.Notes.{text_in}
use Rattle.kc_kallsyms.specs.declared.places.Places.{Places}
use Rattle.kc_kallsyms.specs.Places.{places_in}
use Rattle.kc_command.specs.declared.refusal.Refusal.TheVariants.{Notes, Tables}
use Rattle.kc_command.specs.Made.{◌>>=◌, Made, checked, gives}
use Rattle.kc_files.specs.declared.sought.SoughtFile.{SoughtFile}
use Rattle.kc_files.specs.declared.sought.SoughtFile.TheVariants as sought
use Rattle.kc_files.specs.Wishes.{WishAt, Map, Types, Log, Modules, Module}

-- the map, the types, the modules or the types of one with a name, by where the tables of symbols lie, or the log, by the text of VMCOREINFO
pub data SoughtAt : Type 0 where
  MapBy : Places → SoughtAt
  TypesBy : Places → SoughtAt
  LogBy : List ℕ → SoughtAt
  ModulesBy : Places → SoughtAt
  ModuleBy : Places → List ℕ → SoughtAt

-- what a wish is sought by: the symbols' tables have to be named
abbrev pub sought_of : WishAt → List ℕ → Made SoughtAt
sought_of Map note = checked Tables (places_in note) >>= (λ places. gives (MapBy places))
sought_of Types note = checked Tables (places_in note) >>= (λ places. gives (TypesBy places))
sought_of Log note = gives (LogBy note)
sought_of Modules note = checked Tables (places_in note) >>= (λ places. gives (ModulesBy places))
sought_of (Module name) note = checked Tables (places_in note) >>= (λ places. gives (ModuleBy places name))

-- by the notes of a dump
unfoldable pub sought_in : WishAt → List (List ℕ) → Made SoughtAt
sought_in wish notes = checked Notes (text_in notes) >>= (λ note. sought_of wish note)

-- as the code keeps it
abbrev pub sought_view : SoughtFile → SoughtAt
sought_view (sought.Map places) = MapBy places
sought_view (sought.Types places) = TypesBy places
sought_view (sought.Log note) = LogBy note.now
sought_view (sought.Modules places) = ModulesBy places
sought_view (sought.Module places name) = ModuleBy places name.now
