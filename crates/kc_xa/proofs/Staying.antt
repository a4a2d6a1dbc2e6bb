-- What stays of a memory over one call after another.
use Rattle.std.proofs.Common.{ℕ, List, Option, refl, ◌∙◌}
use Rattle.kc_outside.specs.Files.{Files}
use Rattle.kc_memory.specs.Image.{Image}
use Rattle.kc_memory.specs.Stays.{SpaceStays}

pub stays_so : {M : Type 0} (image : M → Option Image) (files : M → Option Files) (through : M → List ℕ) (most : M → ℕ) (a : M) → SpaceStays image files through most a a
stays_so image files through most a = record { same_image = refl; same_files = refl; same_through = refl; same_most = refl }

pub then_stays : {M : Type 0} (image : M → Option Image) (files : M → Option Files) (through : M → List ℕ) (most : M → ℕ) (a b c : M) → SpaceStays image files through most a b → SpaceStays image files through most b c → SpaceStays image files through most a c
then_stays image files through most a b c p q = record {
  same_image = q.same_image ∙ p.same_image;
  same_files = q.same_files ∙ p.same_files;
  same_through = q.same_through ∙ p.same_through;
  same_most = q.same_most ∙ p.same_most;
}
