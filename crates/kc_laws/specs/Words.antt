-- Words that a dump holds.
use Rattle.kc_memory.specs.Image.{Image}
use Rattle.kc_memory.specs.Held.{held}
use Rattle.kc_memory.specs.Translation.{vword}
use Rattle.kc_memory.specs.Laws.{FoundIsHeld}
use Rattle.kc_found.specs.Passing.{ReadsAmong}
use Rattle.kc_memory.proofs.HeldLaws as heldlaws

-- a word that is found at a virtual address is one that the dump holds
pub found_is_held : FoundIsHeld
found_is_held = heldlaws.found_is_held

-- so the words that a dump's reader gives are words that it holds
pub reads_held : (image : Image) → ReadsAmong (held image.physical) (vword image)
reads_held = found_is_held
