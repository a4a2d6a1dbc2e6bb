-- What a change does.
use Rattle.std.specs.Prelude.{◌≡◌, ℕ, ◌+◌, ◌<◌, ◌≤◌, ◌^◌, ◌⊎◌, List, [], ◌∷◌, ◌++◌, length, slice_get, Some}
use Rattle.std.specs.List.{All, AllByRecursion}
use Rattle.kc_word.specs.Numbers.{number_at}
use Rattle.kc_phys.specs.declared.patch.change.Change.{Change}
use Rattle.kc_phys.specs.Patch.Changed.{changed, changed_all}

-- the length stays
abbrev pub KeepsLength : Type 0
KeepsLength = (off value : ℕ) (file : List ℕ) → length (changed off value file) ≡ length file

-- each byte before the eight and after them stays
abbrev pub OthersStay : Type 0
OthersStay =
    (off value i : ℕ) (file : List ℕ) → (i < off) ⊎ (off + 8 ≤ i) → slice_get (changed off value file) i ≡ slice_get file i

-- the eight bytes hold the value, where the file has them all
abbrev pub ReadsBack : Type 0
ReadsBack =
    (off value : ℕ) (file : List ℕ) → value < 2 ^ 64 → off + 8 ≤ length file → number_at 8 (changed off value file) off ≡ Some value

-- a word that is changed to what it is leaves the file as it is
abbrev pub SameStays : Type 0
SameStays =
    (off value : ℕ) (file : List ℕ) → All (λ b. b < 256) file → number_at 8 file off ≡ Some value → changed off value file ≡ file

-- several changes keep the length too
abbrev pub AllKeepLength : Type 0
AllKeepLength = (changes : List Change) (file : List ℕ) → length (changed_all changes file) ≡ length file

-- and each byte that none of them has
abbrev pub AllOthersStay : Type 0
AllOthersStay =
    (changes : List Change) (i : ℕ) (file : List ℕ) → AllByRecursion (λ (c : Change). (i < c.off) ⊎ (c.off + 8 ≤ i)) changes
    → slice_get (changed_all changes file) i ≡ slice_get file i

-- the last of them is a change of the file that the others make
abbrev pub LastLiesOver : Type 0
LastLiesOver =
    (changes : List Change) (last : Change) (file : List ℕ)
    → changed_all (changes ++ last ∷ []) file ≡ changed last.off last.value (changed_all changes file)
