-- What an answer of the reader says.
use Rattle.std.specs.Prelude.{ℕ, List, Option, Some, None, Result, Ok, Err, ⊤}
use Rattle.kc_word.specs.Answers.{GivesTold}
use Rattle.kc_elf.specs.declared.fault.CoreFault.{CoreFault}
use Rattle.kc_elf.specs.declared.fault.CoreStop.{CoreStop}
use Rattle.kc_elf.specs.declared.fault.CoreStop.TheVariants.{Fault, ReadFault, NoMemory}

-- the fault that an error tells: a failure of the store and want of memory tell none
abbrev pub told : CoreStop → Option CoreFault
told (Fault fault) = Some fault
told ReadFault = None
told NoMemory = None

-- The answer is the one that the file's bytes mean, where they are told.
abbrev pub Answers : {X Y : Type 0} → (X → Y) → Option (List ℕ) → Result X CoreStop → (List ℕ → Result Y CoreFault) → Type 0
Answers view None result meant = ⊤
Answers view (Some bytes) result meant = GivesTold told view result (meant bytes)

-- what is said where the store failed
abbrev pub OnReadFault : {X : Type 0} → Result X CoreStop → Type 0 → Type 0
OnReadFault (Err ReadFault) P = P
OnReadFault (Err (Fault fault)) P = ⊤
OnReadFault (Err NoMemory) P = ⊤
OnReadFault (Ok x) P = ⊤

-- what is said where it didn't
abbrev pub UnlessReadFault : {X : Type 0} → Result X CoreStop → Type 0 → Type 0
UnlessReadFault (Err ReadFault) P = ⊤
UnlessReadFault (Err (Fault fault)) P = P
UnlessReadFault (Err NoMemory) P = P
UnlessReadFault (Ok x) P = P

-- The answer names no fault of the file.
abbrev pub IsFaultless : {X : Type 0} → Result X CoreStop → Type 0
IsFaultless (Err ReadFault) = ⊤
IsFaultless (Err (Fault fault)) = ⊥
IsFaultless (Err NoMemory) = ⊤
IsFaultless (Ok x) = ⊤
