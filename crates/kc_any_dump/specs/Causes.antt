-- How a program ends whose dump can't be read.
use Rattle.std.specs.Prelude.{◌≡◌, ◌⊎◌, ⊤, ℕ, List, Bool, true, false, Option, Some, None, IfSome, option_and_then}
use Rattle.kc_outside.specs.Texts.{with_piece}
use Rattle.kc_command.specs.declared.ends.status.Status.{Status}
use Rattle.kc_command.specs.declared.ends.status.Status.TheVariants.{Refused, StoreFailed, OutOfMemory}
use Rattle.kc_command.specs.Ends.Ends.{TookPrefix}
use Rattle.kc_command.specs.Ends.Failures.{memory_refused}
use Rattle.kc_flattened_store.specs.declared.stop.FlattenedFault.{FlattenedFault}
use Rattle.kc_flattened_store.specs.declared.stop.FlattenedFault.TheVariants as flattened
use Rattle.kc_flattened_store.specs.Faults.{refusal as flat_refusal}
use Rattle.kc_flattened_store.specs.Seen.{seen_bytes as flat_bytes}
use Rattle.kc_plain_store.specs.declared.stop.ViewFault.{ViewFault}
use Rattle.kc_plain_store.specs.declared.stop.ViewFault.TheVariants as view
use Rattle.kc_plain_store.specs.Faults.{page_fault, refusal}
use Rattle.kc_any_dump.specs.declared.cause.Cause.{Cause}
use Rattle.kc_any_dump.specs.declared.cause.Cause.TheVariants.{Flattened, Compressed, Page, Memory}
use Rattle.kc_any_dump.specs.Lines.{cause_line}

-- what bytes say of a cause: of a flattened file that is refused those of the dump's file, and else those that this file means, which are its own
-- where it isn't flattened. Both are None where they aren't known.
abbrev pub IsCauseIn : Option (List ℕ) → Option (List ℕ) → Cause → Type 0
IsCauseIn file held (Flattened fault) = IfSome file (λ bytes. flat_refusal bytes ≡ Some fault)
IsCauseIn file held (Compressed fault) = IfSome held (λ bytes. refusal bytes ≡ Some fault)
IsCauseIn file held (Page bad) = IfSome held (λ bytes. page_fault bytes bad.number ≡ Some bad.fault)
IsCauseIn file held Memory = ⊤

-- a cause that is told is what the bytes say
abbrev pub IsTrueOf : Option Cause → Option (List ℕ) → Option (List ℕ) → Type 0
IsTrueOf told file held = (cause : Cause) → told ≡ Some cause → IsCauseIn file held cause

-- bytes that are held are what the file means: of a flattened one what its records write, of another its own
abbrev pub IsMeant : Option (List ℕ) → Option (List ℕ) → Type 0
IsMeant file held = IfSome held (λ bytes. option_and_then flat_bytes file ≡ Some bytes)

-- the cause by the fault of a flattened file, and of a dump over it: none where only a call of the store failed
abbrev pub flattened_cause : Option FlattenedFault → Option Cause
flattened_cause None = None
flattened_cause (Some flattened.Store) = None
flattened_cause (Some (flattened.Refused fault)) = Some (Flattened fault)
flattened_cause (Some flattened.NoMemory) = Some Memory

abbrev pub dump_cause : Option ViewFault → Option FlattenedFault → Option Cause
dump_cause None below = None
dump_cause (Some view.Store) below = flattened_cause below
dump_cause (Some (view.Refused fault)) below = Some (Compressed fault)
dump_cause (Some (view.Page bad)) below = Some (Page bad)
dump_cause (Some view.NoMemory) below = Some Memory

-- the status by a cause
abbrev pub cause_status : Cause → Status
cause_status (Flattened fault) = Refused
cause_status (Compressed fault) = Refused
cause_status (Page bad) = StoreFailed
cause_status Memory = OutOfMemory

-- the statuses where a dump can't be read
abbrev pub is_unread : Status → Bool
is_unread Refused = true
is_unread StoreFailed = true
is_unread OutOfMemory = true
is_unread _ = false

-- a program ended by a cause, whose line standard error took; or no memory was left for that line
abbrev pub SaysCause : Cause → Status → Option (List ℕ) → Option (List ℕ) → Type 0
SaysCause cause ends old new =
    ((ends ≡ cause_status cause) × (new ≡ with_piece old (cause_line cause)))
    ⊎ ((ends ≡ OutOfMemory) × (new ≡ with_piece old memory_refused))

-- standard error took a first part of such a line
abbrev pub TookCause : Cause → Option (List ℕ) → Option (List ℕ) → Type 0
TookCause cause old new = TookPrefix old new (cause_line cause) ⊎ TookPrefix old new memory_refused

-- the same by the cause that is told; or by none, where only a call of the store failed
abbrev pub SaysAny : Option Cause → Status → Option (List ℕ) → Option (List ℕ) → Type 0
SaysAny None ends old new = (ends ≡ StoreFailed) × (new ≡ old)
SaysAny (Some cause) ends old new = SaysCause cause ends old new

abbrev pub TookAny : Option Cause → Option (List ℕ) → Option (List ℕ) → Type 0
TookAny None old new = new ≡ old
TookAny (Some cause) old new = TookCause cause old new
