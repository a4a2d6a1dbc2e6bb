-- What is shown of slabs is true of the dump.
use Rattle.std.specs.Prelude.{◌≡◌, ℕ, IsTrue, List, Option, Some, None, Result, Ok, Err, ⊤}
use Rattle.std.specs.List.{AllByRecursion}
use Rattle.kc_memory.specs.Image.{Image}
use Rattle.kc_memory.specs.Places.{AllStandIn}
use Rattle.kc_found.specs.Violations.{Violation}
use Rattle.kc_slab_page.specs.Pages.{page_seen}
use Rattle.kc_slab_scan.specs.CpuLaws.{Stands as CpuStands}
use Rattle.kc_slab_scan.specs.Laws.{IsSound, Stands}
use Rattle.kc_slabs.specs.declared.looking.CpusSeen.{CpusSeen}
use Rattle.kc_slabs.specs.declared.looking.SlabShapes.{SlabShapes}
use Rattle.kc_slabs.specs.Looking.{Seen, seen_in}
use Rattle.kc_slabs.specs.Text.{is_sound}

-- the words that show what processors' slabs break, or why the processors can't be told, stand in the dump, at the places that are shown
abbrev pub OwnedStand : Image → Option (Result CpusSeen Violation) → Type 0
OwnedStand image None = ⊤
OwnedStand image (Some (Ok s)) = AllByRecursion (CpuStands image) s.scan.broken
OwnedStand image (Some (Err v)) = AllStandIn image v.places

-- so do those that show what the ring of all caches breaks
abbrev pub RingStands : Image → Option Violation → Type 0
RingStands image None = ⊤
RingStands image (Some v) = AllStandIn image v.places

-- and those that show what each slab breaks, or why the caches can't be told
abbrev pub SlabsStand : Image → Result Seen Violation → Type 0
SlabsStand image (Ok s) = AllByRecursion (Stands image) s.scan.broken × OwnedStand image s.cpus × RingStands image s.caches.broken
SlabsStand image (Err v) = AllStandIn image v.places

abbrev pub ShownStand : Type 0
ShownStand = (image : Image) (shapes : SlabShapes) (cache : Option (List ℕ)) (frames : List ℕ) → SlabsStand image (seen_in image shapes cache frames)

-- where slabs are sound, the page of each frame is no slab of these caches, or a whole one
abbrev pub SoundIsOfAll : Type 0
SoundIsOfAll =
    (image : Image) (shapes : SlabShapes) (cache : Option (List ℕ)) (frames : List ℕ) (s : Seen) → seen_in image shapes cache frames ≡ Ok s
    → IsTrue (is_sound s) → AllByRecursion (λ n. IsSound (page_seen image shapes.pages s.caches n)) frames
