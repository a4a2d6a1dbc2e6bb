-- What a search says where it comes to an end, and where it doesn't.
use Rattle.std.specs.Prelude.{◌≡◌, ℕ, ◌≤◌, List, Option, Some, None, Result, Ok, Err, ⊤}
use Rattle.kc_outside.specs.Counts.{Rose}
use Rattle.kc_found.specs.declared.failed.ReadFailed.{ReadFailed}
use Rattle.kc_found.specs.declared.failed.ReadFailed.TheVariants.{Fault, NoMemory}

-- what is said of a file's bytes, where they are told
abbrev pub Told : Option (List ℕ) → (List ℕ → Type 0) → Type 0
Told None P = ⊤
Told (Some bytes) P = P bytes
