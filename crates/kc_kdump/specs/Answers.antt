-- What an answer of the reader says.
use Rattle.std.specs.Prelude.{◌≡◌, ℕ, List, Option, Some, None, Result, Ok, Err, ⊤}
use Rattle.kc_word.specs.Answers.{GivesTold}
use Rattle.kc_kdump.specs.declared.fault.KdumpFault.{KdumpFault}
use Rattle.kc_kdump.specs.declared.fault.KdumpFault.TheVariants.{K8}
use Rattle.kc_kdump.specs.declared.fault.KdumpStop.{KdumpStop}
use Rattle.kc_kdump.specs.declared.fault.KdumpStop.TheVariants.{Fault, ReadFault, NoMemory}

-- the fault that an error tells: a failure of the store and want of memory tell none
abbrev pub told : KdumpStop → Option KdumpFault
told (Fault fault) = Some fault
told ReadFault = None
told NoMemory = None

-- The answer is the one that the file's bytes mean, where they are told.
abbrev pub Answers : {X Y : Type 0} → (X → Y) → Option (List ℕ) → Result X KdumpStop → (List ℕ → Result Y KdumpFault) → Type 0
Answers view None result meant = ⊤
Answers view (Some bytes) result meant = GivesTold told view result (meant bytes)

-- what is said where a fault came, which is K8, of an answer that tells no failure of a store
abbrev pub IfTooMany : {X : Type 0} → Result X KdumpStop → Type 0 → Type 0
IfTooMany (Ok x) P = ⊤
IfTooMany (Err (Fault fault)) P = (fault ≡ K8) × P
IfTooMany (Err ReadFault) P = ⊥
IfTooMany (Err NoMemory) P = ⊤

-- the same of an answer that may tell one
abbrev pub OnTooMany : {X : Type 0} → Result X KdumpStop → Type 0 → Type 0
OnTooMany (Ok x) P = ⊤
OnTooMany (Err (Fault fault)) P = (fault ≡ K8) × P
OnTooMany (Err ReadFault) P = ⊤
OnTooMany (Err NoMemory) P = ⊤

-- the answer names no fault of the file
abbrev pub IsFaultless : {X : Type 0} → Result X KdumpStop → Type 0
IsFaultless (Ok x) = ⊤
IsFaultless (Err (Fault fault)) = ⊥
IsFaultless (Err ReadFault) = ⊤
IsFaultless (Err NoMemory) = ⊤
