-- What an answer on suspects says.
use Rattle.std.specs.Prelude.{◌≡◌, ℕ, List, Option, None, Result, Ok, Err}
use Rattle.kc_outside.specs.Files.{Files}
use Rattle.kc_memory.specs.Image.{Image, Physical}
use Rattle.kc_memory.specs.Stays.{FramesStay, SpaceStays}
use Rattle.kc_memory.specs.declared.space.Stop.{Stop}
use Rattle.kc_memory.specs.declared.space.Stop.TheVariants.{Miss}
use Rattle.kc_memory.specs.declared.space.Stop.TheVariants as stops
use Rattle.kc_found.specs.declared.failed.ReadFailed.{ReadFailed}
use Rattle.kc_found.specs.declared.failed.ReadFailed.TheVariants.{Fault}
use Rattle.kc_found.specs.Failures.{CountsFailures}

-- what can't be read is nothing, unless reading failed
abbrev pub IsUnread : {A : Type 0} → Stop → Result (Option A) ReadFailed → Type 0
IsUnread (Miss s) r = r ≡ Ok None
IsUnread stops.Fault r = r ≡ Err Fault

-- A call that only reads a memory: that is of the same dump after it, and its count of failures rose only where reading failed.
pub record OnlyReads {M A : Type 0} (image : M → Option Image) (files : M → Option Files) (through : M → List ℕ) (most faults : M → ℕ) (result : Result A ReadFailed) (old new : M) : Type 0 where
  pub stays : SpaceStays image files through most old new
  pub cause : CountsFailures result (faults old) (faults new)

-- and one that hands a physical memory back
pub record OnlyReadsFrames {M A : Type 0} (image : M → Option Physical) (files : M → Option Files) (through : M → List ℕ) (faults : M → ℕ) (result : Result A ReadFailed) (old new : M) : Type 0 where
  pub stays : FramesStay image files through old new
  pub cause : CountsFailures result (faults old) (faults new)
