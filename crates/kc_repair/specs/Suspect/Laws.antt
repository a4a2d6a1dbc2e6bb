-- What is suspected stands in the dump.
use Rattle.std.specs.Prelude.{◌≡◌, Ok}
use Rattle.std.specs.List.{AllByRecursion}
use Rattle.kc_memory.specs.declared.words.Origin.TheVariants.{File}
use Rattle.kc_memory.specs.Image.{Image}
use Rattle.kc_memory.specs.Translation.{vword}
use Rattle.kc_found.specs.Violations.{Violation}
use Rattle.kc_kinds.specs.declared.kind.Kind.{Kind}
use Rattle.kc_repair.specs.declared.suspect.suspect.Suspect.{Suspect}
use Rattle.kc_repair.specs.Suspect.Suspects.{suspects}

-- a word of the dump whose bytes stand in the file, and another number than it holds
pub record IsSuspect (image : Image) (s : Suspect) : Type 0 where
  pub there : vword image s.va ≡ Ok (record { va = s.va; pa = s.pa; off = File s.off; value = s.now })
  pub other : s.value ≡ s.now → ⊥

abbrev pub SuspectsStand : Type 0
SuspectsStand = (image : Image) (kind : Kind) (v : Violation) → AllByRecursion (IsSuspect image) (suspects image kind v)
