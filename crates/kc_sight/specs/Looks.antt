-- What an answer on the memory of a dump says.
use Rattle.std.specs.Prelude.{◌≡◌, ⊤, ℕ, ◌+◌, ◌*◌, ◌%◌, ◌^◌, ◌≤◌, List, map, Option, Some, None, Result, Ok, Err}
use Rattle.std.specs.List.{range_with_len}
use Rattle.kc_outside.specs.Counts.{Rose}
use Rattle.kc_memory.specs.declared.space.Stop.{Stop}
use Rattle.kc_memory.specs.declared.space.Stop.TheVariants.{Miss}
use Rattle.kc_memory.specs.declared.space.Stop.TheVariants as stops
use Rattle.kc_memory.specs.declared.words.VWord.{VWord}
use Rattle.kc_memory.specs.Image.{Image}
use Rattle.kc_memory.specs.Stopped.{Stopped}
use Rattle.kc_memory.specs.Translation.{vword}
use Rattle.kc_found.specs.declared.failed.ReadFailed.{ReadFailed}
use Rattle.kc_found.specs.declared.failed.ReadFailed.TheVariants.{Fault, NoMemory}
use Rattle.kc_found.specs.Failures.{CountsFailures}

-- the words at so many addresses from one on, eight bytes apart, each as it reads; addresses wrap at 2^64
unfoldable pub words : Image → ℕ → ℕ → List (Result VWord Stopped)
words image first count = map (λ i. vword image ((first + 8 * i) % 2 ^ 64)) (range_with_len 0 count)

-- short of a failure and of being out of memory, an answer, seen by a view, is this one
abbrev pub IsLook : {X A : Type 0} → (X → A) → A → Result X ReadFailed → Type 0
IsLook view truth (Ok x) = view x ≡ truth
IsLook view truth (Err stop) = ⊤

-- the answer is the one that a definition gives of the dump, where the dump is told
abbrev pub LooksAs : {I X A : Type 0} → (X → A) → (I → A) → Option I → Result X ReadFailed → Type 0
LooksAs view truth None r = ⊤
LooksAs view truth (Some image) r = IsLook view (truth image) r

-- a stop of one word is a miss, which is an answer, or a failure
abbrev pub IsMissing : Stop → Result (Result VWord Stopped) ReadFailed → Type 0
IsMissing (Miss s) r = r ≡ Ok (Err s)
IsMissing stops.Fault r = r ≡ Err Fault

-- the same of a call after another one, which it doesn't make up for: where that one failed, nothing is counted again
abbrev pub FaultsAfter : {A B : Type 0} → Result B ReadFailed → Result A ReadFailed → ℕ → ℕ → Type 0
FaultsAfter (Ok b) r before after = CountsFailures r before after
FaultsAfter (Err stop) r before after = (r ≡ Err stop) × (after ≡ before)
