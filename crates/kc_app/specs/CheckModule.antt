-- `check` over the types of a kernel with those of a module of it.
use Rattle.std.specs.Prelude.{ℕ, List, [], ◌∷◌, codes, Option, Some, None}
use Rattle.std.specs.Option.{option_or}
use Rattle.kc_outside.specs.declared.store.Slot.TheVariants as slot
use Rattle.kc_command.specs.Inputs.{map_in, module_in, types_in}
use Rattle.kc_command.specs.Kernels.{noted_in}
use Rattle.kc_command.specs.Made.{◌>>=◌, Made, gives}
use Rattle.kc_command.specs.Paging.{by_info}
use Rattle.kc_command.specs.Ends.Asked.{Asked}
use Rattle.kc_question.specs.Memory.{bytes_of}
use Rattle.kc_app.specs.declared.check_module.Asks.{Asks}
use Rattle.kc_app.specs.Check.{Audited, Files, audited_by, audited_shown, check_asks, files_view, planned_in}
use Rattle.kc_app.specs.Form.{Form}
use Rattle.kc_app.specs.Shown.{Shown}

-- what it asks: four files and the module's by their names
pub record FiveFiles : Type 0 where
  pub files : Files
  pub split : List ℕ

-- the faults come in the order dump, types, module, map and plan
abbrev pub audited_with : (most : ℕ) → Option (List ℕ) → Option (List ℕ) → Option (List ℕ) → Option (List ℕ) → Option (List ℕ) → Made Audited
audited_with most dump btf split map plan = do
  noted ← noted_in most dump
  base ← types_in btf
  types ← module_in base split
  listed ← map_in map
  planned ← planned_in types noted.told listed plan
  gives (audited_by noted.parts.segments (by_info noted.told) planned (bytes_of dump))

-- what it makes of its files
abbrev pub module_made : (most : ℕ) → Option (List ℕ) → Option (List ℕ) → Option (List ℕ) → Option (List ℕ) → Option (List ℕ) → Made Shown
module_made most dump btf split map plan = do
  all ← audited_with most dump btf split map plan
  gives (audited_shown all)

abbrev pub module_asked : (most : ℕ) → FiveFiles → Asked Shown
module_asked most f = record {
  named = record { slot = slot.Dump; name = f.files.dump } ∷ record { slot = slot.Btf; name = f.files.btf }
      ∷ record { slot = slot.Module; name = f.split } ∷ record { slot = slot.Map; name = f.files.map }
      ∷ record { slot = slot.Plan; name = f.files.plan } ∷ [];
  made = λ files. module_made most (files slot.Dump) (files slot.Btf) (files slot.Module) (files slot.Map) (files slot.Plan);
}

abbrev pub module_asks : (most : ℕ) → List (List ℕ) → Option (Asked Shown)
module_asks most (dump ∷ btf ∷ map ∷ plan ∷ split ∷ []) =
    Some (module_asked most (record { files = record { dump = dump; btf = btf; map = map; plan = plan }; split = split }))
module_asks most _ = None

-- the command `check`, with a module or without one
abbrev pub checks_asks : (most : ℕ) → List (List ℕ) → Option (Asked Shown)
checks_asks most words = option_or (module_asks most words) (check_asks most words)

abbrev pub check_form : (most : ℕ) → Form Shown
check_form most = record { name = codes "check"; words = codes "DUMP BTF MAP PLAN" ∷ codes "DUMP BTF MAP PLAN MODULE" ∷ []; asks = checks_asks most }

-- as the code keeps them
abbrev pub five_view : Asks → FiveFiles
five_view a = record { files = files_view a.files; split = a.split.now }

abbrev pub module_view : Asks → Asked Shown
module_view a = module_asked a.files.most (five_view a)
