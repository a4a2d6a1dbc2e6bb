-- How the program ends.
use Rattle.std.specs.Prelude.{◌≡◌, ◌⊎◌, ℕ, List, Bool, true, false, codes, Option, Some, None, IfSome, option_and_then}
use Rattle.std.specs.Bool.{OnTrue}
use Rattle.kc_outside.specs.declared.store.Slot.{Slot}
use Rattle.kc_outside.specs.declared.store.Slot.TheVariants.{Dump}
use Rattle.kc_outside.specs.Files.{Files, named}
use Rattle.kc_outside.specs.Texts.{with_piece}
use Rattle.kc_command.specs.declared.ends.status.Status.{Status}
use Rattle.kc_command.specs.declared.ends.status.Status.TheVariants.{Done, Broken, Refused, StoreFailed, SinkFailed, OutOfMemory, NoCommand}
use Rattle.kc_command.specs.Inputs.{view_headers}
use Rattle.kc_command.specs.Ends.Failures.{memory_refused, store_failed}
use Rattle.kc_command.specs.Ends.Status.{At, is_silent}
use Rattle.kc_command.specs.Ends.Unopened.{AskedStay}
use Rattle.kc_plain_store.specs.Faults.{is_complete}
use Rattle.kc_plain_store.specs.Seen.{seen_bytes}
use Rattle.kc_any_dump.specs.declared.cause.Cause.{Cause}
use Rattle.kc_any_dump.specs.Causes.{IsMeant, IsTrueOf, SaysCause, cause_status}
use Rattle.kc_any_dump.specs.Lines.{cause_line}
use Rattle.kc_app.specs.CertHeadline.{CertifyEnds, RecheckEnds}
use Rattle.kc_app.specs.Headline.{CheckEnds, CheckPrints}
use Rattle.kc_app.specs.ModuleHeadline.{ModuleCheckEnds, ModuleCheckPrints}
use Rattle.kc_app.specs.Output.{IsToldBy, TookTrue, out_of}
use Rattle.kc_app.specs.Program.{program}

-- ---- the command `core`

-- its statuses
abbrev pub is_core : Status → Bool
is_core Broken = false
is_core NoCommand = false
is_core _ = true

-- those after the dump was opened
abbrev pub is_copy : Status → Bool
is_copy Done = true
is_copy StoreFailed = true
is_copy SinkFailed = true
is_copy _ = false

-- those where it wasn't read to its end, or not written
abbrev pub is_failed : Status → Bool
is_failed StoreFailed = true
is_failed SinkFailed = true
is_failed _ = false

-- and those where it wasn't opened
abbrev pub is_unopened : Status → Bool
is_unopened Refused = true
is_unopened OutOfMemory = true
is_unopened _ = false

-- the cause that is told has the status, and standard error took its line
abbrev pub CausedBy : Option Cause → Status → Option (List ℕ) → Option (List ℕ) → Type 0
CausedBy told ends old new = (cause : Cause) × (told ≡ Some cause) × (ends ≡ cause_status cause) × (new ≡ with_piece old (cause_line cause))

-- standard error took the line that the store failed, or that of a page that can't be had
abbrev pub StoreSays : Option Cause → Option (List ℕ) → Option (List ℕ) → Type 0
StoreSays told old new = (new ≡ with_piece old store_failed) ⊎ CausedBy told StoreFailed old new

abbrev pub incomplete_line : List ℕ
incomplete_line = codes "incomplete dump: the pages that it lacks are left out\n"

-- standard error took nothing where the dump of these bytes lacks no page at its end, and else the line that it does
abbrev pub DoneSays : Option (List ℕ) → Option (List ℕ) → Option (List ℕ) → Type 0
DoneSays held old new =
    (IfSome held (λ bytes. is_complete bytes ≡ true) × (new ≡ old))
    ⊎ (IfSome held (λ bytes. is_complete bytes ≡ false) × (new ≡ with_piece old incomplete_line))

-- Where it ends with 0, standard output took the whole file that is shown for the dump, which stands for the bytes that the store holds: those that
-- the dump's file means.
-- Where the dump's form is refused, and where no memory was left to open it, standard output took nothing.
pub record CoreEnds (files : Option Files) (name : List ℕ) (file held : Option (List ℕ)) (told : Option Cause) (ends : Status) (out_old out_new err_old err_new : Option (List ℕ)) : Type 0 where
  pub status : is_core ends ≡ true
  pub whole : At ends Done (IfSome (named files Dump name) (λ bytes. out_new ≡ with_piece out_old bytes))
  pub shown : At ends Done (named files Dump name ≡ option_and_then seen_bytes held)
  pub means : IsMeant file held
  pub said : At ends Done (DoneSays held err_old err_new)
  pub is_true : IsTrueOf told file held
  pub refused : At ends Refused (CausedBy told ends err_old err_new)
  pub store : At ends StoreFailed (StoreSays told err_old err_new)
  pub memory : At ends OutOfMemory (err_new ≡ with_piece err_old memory_refused)
  pub silent : OnTrue (is_unopened ends) (out_new ≡ out_old)

-- ---- the commands of kaudit

-- the statuses of an answer that no failure of the store has
abbrev pub is_settled : Status → Bool
is_settled Done = true
is_settled Broken = true
is_settled NoCommand = true
is_settled _ = false

-- where kaudit ended since the store failed, and said so, the program ended by the cause that is told
abbrev pub SaysAfter : Option Cause → Status → Option (List ℕ) → Option (List ℕ) → Type 0
SaysAfter told ends old new = (cause : Cause) × (told ≡ Some cause) × SaysCause cause ends (with_piece old store_failed) new

-- An answer is kaudit's over the files that are shown, and so is a refusal; but for the refusal of the dump's form, whose line follows the
-- one that the store failed. The cause of such a line is what the bytes say of the dump's file, and of what it means.
pub record AuditEnds (words : List (List ℕ)) (files : Option Files) (file held : Option (List ℕ)) (blamed : Option Cause) (opened_old opened_new : Slot → Option (List ℕ)) (ends : Status) (out_old out_new err_old err_new : Option (List ℕ)) : Type 0 where
  pub told : OnTrue (is_settled ends) (IsToldBy view_headers words files ends out_old out_new err_old err_new)
  pub stands : OnTrue (is_settled ends) (IfSome files (λ f. CheckEnds view_headers words f ends))
  pub stands_with_module : OnTrue (is_settled ends) (IfSome files (λ f. ModuleCheckEnds view_headers words f ends))
  pub roots : OnTrue (is_settled ends) (IfSome files (λ f. CheckPrints view_headers words f out_old out_new))
  pub roots_with_module : OnTrue (is_settled ends) (IfSome files (λ f. ModuleCheckPrints view_headers words f out_old out_new))
  pub shown : OnTrue (is_settled ends) (IfSome files (λ f. TookTrue (out_of view_headers words f) out_old out_new))
  pub certified : OnTrue (is_settled ends) (IfSome files (λ f. CertifyEnds view_headers words f ends out_old out_new))
  pub rechecked : OnTrue (is_settled ends) (IfSome files (λ f. RecheckEnds view_headers words f ends out_old out_new err_old err_new))
  pub refused : At ends Refused ((IsToldBy view_headers words files ends out_old out_new err_old err_new × AskedStay (program view_headers words) files opened_old opened_new) ⊎ SaysAfter blamed ends err_old err_new)
  pub store : At ends StoreFailed (((blamed ≡ None) × (err_new ≡ with_piece err_old store_failed)) ⊎ SaysAfter blamed ends err_old err_new)
  pub memory : At ends OutOfMemory ((err_new ≡ with_piece err_old memory_refused) ⊎ SaysAfter blamed ends err_old err_new)
  pub is_true : IsTrueOf blamed file held
  pub silent : OnTrue (is_silent ends) (out_new ≡ out_old)
