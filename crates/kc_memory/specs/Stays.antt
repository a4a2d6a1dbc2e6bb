-- What a call on a memory leaves as it was, and what its count of failures says.
use Rattle.std.proofs.Common.{◌∙◌}
use Rattle.std.specs.Prelude.{◌≡◌, ℕ, ◌≤◌, List, Option, Result, Ok, Err}
use Rattle.kc_outside.specs.Counts.{Rose}
use Rattle.kc_outside.specs.Files.{Files}
use Rattle.kc_memory.specs.declared.space.Stop.{Stop}
use Rattle.kc_memory.specs.declared.space.Stop.TheVariants.{Miss, Fault}
use Rattle.kc_memory.specs.Image.{Image, Physical}

-- physical memory is that of the same dump, in the same files, and read through the same borrows
pub record FramesStay {M : Type 0} (image : M → Option Physical) (files : M → Option Files) (through : M → List ℕ) (old new : M) : Type 0 where
  pub same_image : image new ≡ image old
  pub same_files : files new ≡ files old
  pub same_through : through new ≡ through old

-- virtual memory is that of the same dump, in the same files, read through the same borrows, and a word of it takes
-- as many steps at most
pub record SpaceStays {M : Type 0} (image : M → Option Image) (files : M → Option Files) (through : M → List ℕ) (most : M → ℕ) (old new : M) : Type 0 where
  pub same_image : image new ≡ image old
  pub same_files : files new ≡ files old
  pub same_through : through new ≡ through old
  pub same_most : most new ≡ most old

-- what stays over one call and over the next one stays over both
pub stays_on : {M : Type 0} (image : M → Option Image) (files : M → Option Files) (through : M → List ℕ) (most : M → ℕ) (a b c : M) →
    SpaceStays image files through most a b → SpaceStays image files through most b c → SpaceStays image files through most a c
stays_on image files through most a b c one two = record {
  same_image = two.same_image ∙ one.same_image;
  same_files = two.same_files ∙ one.same_files;
  same_through = two.same_through ∙ one.same_through;
  same_most = two.same_most ∙ one.same_most;
}

-- the count of failures rose where reading failed, and else it is as it was
abbrev pub CountsFaults : {A : Type 0} → Result A Stop → ℕ → ℕ → Type 0
CountsFaults (Ok a) before after = after ≡ before
CountsFaults (Err (Miss s)) before after = after ≡ before
CountsFaults (Err Fault) before after = (before ≤ after) × Rose before after
