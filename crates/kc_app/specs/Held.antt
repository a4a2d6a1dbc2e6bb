-- What the four files of an audit hold.
use Rattle.std.specs.Prelude.{◌≡◌, ⊤, ℕ, List, Option, Some, None, Result, Ok, Err}
use Rattle.kc_outside.specs.Files.{Files as Told}
use Rattle.kc_plan.specs.Views.{plan_whole}
use Rattle.kc_command.specs.declared.halt.Halt.{Halt}
use Rattle.kc_command.specs.Made.{Halts, Made, gives}
use Rattle.kc_command.specs.Paging.{by_info}
use Rattle.kc_app.specs.declared.held.HeldFiles.{HeldFiles}
use Rattle.kc_app.specs.Check.{Audited, audited_by}

-- what is audited, where the dump has these bytes
abbrev pub audited_of : HeldFiles → List ℕ → Audited
audited_of held bytes = audited_by held.core.segments (by_info held.info) (plan_whole held.plan) bytes

-- Where the files are told, they hold what is made of them: the dump that lies open has bytes, and with these it is what is audited.
abbrev pub Holds : (Told → Made Audited) → Option Told → Option (List ℕ) → Result HeldFiles Halt → Type 0
Holds made None content r = ⊤
Holds made (Some files) content (Ok held) = (bytes : List ℕ) × (content ≡ Some bytes) × (made files ≡ gives (audited_of held bytes))
Holds made (Some files) content (Err halt) = Halts (made files) halt
