-- What the answer to a physical word says.
use Rattle.std.specs.Prelude.{◌≡◌, ℕ, ◌≤◌, Option, Some, None, Result, Ok, Err, ⊤}
use Rattle.kc_memory.specs.declared.frames.FrameStop.{FrameStop}
use Rattle.kc_memory.specs.declared.frames.FrameStop.TheVariants.{Absent, Fault}
use Rattle.kc_memory.specs.declared.words.PWord.{PWord}
use Rattle.kc_outside.specs.Counts.{Rose}
use Rattle.kc_memory.specs.Image.{Physical, pword}

-- short of a fault, an answer is this word, or that there is none
abbrev pub IsWord : Option PWord → Result PWord FrameStop → Type 0
IsWord word (Ok w) = word ≡ Some w
IsWord word (Err Absent) = word ≡ None
IsWord word (Err Fault) = ⊤

-- the answer is the word of the dump, where the dump is told
abbrev pub ReadsWord : Option Physical → ℕ → Result PWord FrameStop → Type 0
ReadsWord None pa r = ⊤
ReadsWord (Some physical) pa r = IsWord (pword physical pa) r

-- the count of failures rose where reading failed, and else it is as it was
abbrev pub CountsFaults : Result PWord FrameStop → ℕ → ℕ → Type 0
CountsFaults (Ok w) before after = after ≡ before
CountsFaults (Err Absent) before after = after ≡ before
CountsFaults (Err Fault) before after = (before ≤ after) × Rose before after

abbrev pub OnFault : Result PWord FrameStop → Type 0 → Type 0
OnFault (Ok w) P = ⊤
OnFault (Err Absent) P = ⊤
OnFault (Err Fault) P = P

abbrev pub UnlessFault : Result PWord FrameStop → Type 0 → Type 0
UnlessFault (Ok w) P = P
UnlessFault (Err Absent) P = P
UnlessFault (Err Fault) P = ⊤
