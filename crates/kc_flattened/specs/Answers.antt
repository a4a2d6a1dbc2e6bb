-- What an answer of the reader says.
use Rattle.std.specs.Prelude.{ℕ, List, Option, Some, None, Result, Ok, Err, ⊤}
use Rattle.kc_word.specs.Answers.{GivesTold}
use Rattle.kc_flattened.specs.declared.fault.FlatFault.{FlatFault}
use Rattle.kc_flattened.specs.declared.fault.FlatStop.{FlatStop}
use Rattle.kc_flattened.specs.declared.fault.FlatStop.TheVariants.{Fault, ReadFault, NoMemory}

-- the fault that an error tells: a failure of the store and want of memory tell none
abbrev pub told : FlatStop → Option FlatFault
told (Fault fault) = Some fault
told ReadFault = None
told NoMemory = None

-- The answer is the one that the file's bytes mean, where they are told.
abbrev pub Answers : {X Y : Type 0} → (X → Y) → Option (List ℕ) → Result X FlatStop → (List ℕ → Result Y FlatFault) → Type 0
Answers view None result meant = ⊤
Answers view (Some bytes) result meant = GivesTold told view result (meant bytes)

-- The answer names no fault of the file.
abbrev pub IsFaultless : {X : Type 0} → Result X FlatStop → Type 0
IsFaultless (Err ReadFault) = ⊤
IsFaultless (Err (Fault fault)) = ⊥
IsFaultless (Err NoMemory) = ⊤
IsFaultless (Ok x) = ⊤
