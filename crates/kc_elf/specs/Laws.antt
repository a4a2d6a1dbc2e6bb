-- What the definition of a core file says, in the words of the format.
use Rattle.std.specs.Prelude.{◌≡◌, ℕ, ◌<◌, List, All, Ok, Err}
use Rattle.kc_elf.specs.declared.fault.CoreFault.TheVariants.{E9}
use Rattle.kc_elf.specs.CoreFile.{core}
use Rattle.kc_elf.specs.Parts.{Parts}
use Rattle.kc_elf.specs.Spelling.{IsLoaded, IsOutOfBounds}

-- each segment is spelled by some PT_LOAD of the file, and its bytes are inside the file
abbrev pub SegmentsAreSpelled : Type 0
SegmentsAreSpelled = (most : ℕ) (bytes : List ℕ) (parts : Parts) → core most bytes ≡ Ok parts → All (IsLoaded bytes) parts.segments

-- E9 has the index of the first program header that is out of bounds
abbrev pub FirstOutOfBounds : Type 0
FirstOutOfBounds =
    (most : ℕ) (bytes : List ℕ) (i : ℕ) → core most bytes ≡ Err (E9 i)
    → IsOutOfBounds bytes i × ((k : ℕ) → k < i → IsOutOfBounds bytes k → ⊥)
