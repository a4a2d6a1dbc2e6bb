-- Where a file is refused, the files after it aren't opened: their slots are as before.
use Rattle.std.specs.Prelude.{⊤, ℕ, List, Option, Some, None, Ok, Err}
use Rattle.kc_outside.specs.declared.store.Slot.{Slot}
use Rattle.kc_outside.specs.Files.{Files}
use Rattle.kc_command.specs.Made.{Made}
use Rattle.kc_command.specs.Slots.{refused_slot}
use Rattle.kc_command.specs.Ends.Asked.{AllStay, Asked, Named, asked_files, behind}

-- by what a command makes
abbrev pub MadeStay : {A : Type 0} → Made A → List Named → (Slot → Option (List ℕ)) → (Slot → Option (List ℕ)) → Type 0
MadeStay None named old new = ⊤
MadeStay (Some (Ok shown)) named old new = ⊤
MadeStay (Some (Err refusal)) named old new = AllStay (behind (refused_slot refusal) named) old new

-- by what the words ask for, where the files are told
abbrev pub AskedStay : {A : Type 0} → Option (Asked A) → Option Files → (Slot → Option (List ℕ)) → (Slot → Option (List ℕ)) → Type 0
AskedStay asks None old new = ⊤
AskedStay None (Some files) old new = ⊤
AskedStay (Some asked) (Some files) old new = MadeStay (asked.made (asked_files asked files)) asked.named old new
