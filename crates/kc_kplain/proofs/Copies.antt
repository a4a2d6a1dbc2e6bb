-- How `core` ends.
use Rattle.std.proofs.Common.{◌≡◌, ◌⊎◌, ℕ, Bool, true, false, nat_eq, List, Option, Some, None, IfSome, IsSome, Err, refl, sym, ap, ◌∙◌, inl, inr}
use Rattle.std.specs.Prelude.{option_and_then}
use Rattle.std.specs.Bool.{OnTrue}
use Rattle.kc_outside.specs.declared.store.Slot.{Slot}
use Rattle.kc_outside.specs.declared.store.Slot.TheVariants.{Dump}
use Rattle.kc_outside.specs.Files.{Files, content, named}
use Rattle.kc_outside.specs.Texts.{with_piece}
use Rattle.kc_command.specs.declared.ends.status.Status.{Status}
use Rattle.kc_command.specs.declared.ends.status.Status.TheVariants.{Done, Broken, Refused, StoreFailed, SinkFailed, OutOfMemory, NoCommand}
use Rattle.kc_command.specs.Ends.Failures.{memory_refused}
use Rattle.kc_command.specs.Ends.Status.{At, is_sink_quiet, number}
use Rattle.kc_plain_store.specs.Faults.{is_complete}
use Rattle.kc_plain_store.specs.Seen.{seen_bytes}
use Rattle.kc_any_dump.specs.declared.cause.Cause.{Cause}
use Rattle.kc_any_dump.specs.declared.cause.Cause.TheVariants.{Flattened, Compressed, Page, Memory}
use Rattle.kc_any_dump.specs.Causes.{IsMeant, IsTrueOf, SaysCause, cause_status, is_unread}
use Rattle.kc_any_dump.specs.Lines.{cause_line}
use Rattle.kc_kplain.specs.declared.copy.CopyStop.{CopyStop}
use Rattle.kc_kplain.specs.declared.copy.CopyStop.TheVariants.{Store, Sink}
use Rattle.kc_kplain.specs.Outcomes.{CausedBy, CoreEnds, DoneSays, StoreSays, is_copy, is_core, is_failed, is_unopened}
use Rattle.kc_kplain.specs.Stops.{OnSink, OnStore, UnlessSink}

-- ---- by the line of a cause

caused : (told : Option Cause) (ends : Status) (cause : Cause) (old new : Option (List ℕ)) → told ≡ Some cause → (ends ≡ OutOfMemory → ⊥) → SaysCause cause ends old new → CausedBy told ends old new
caused told ends cause old new is other (inl says) = (cause, is, says.0, says.1)
caused told ends cause old new is other (inr says) = absurd (other says.0)

pub by_refused : (told : Option Cause) (cause : Cause) (ends : Status) (old new : Option (List ℕ)) → told ≡ Some cause → OnTrue (is_sink_quiet ends) (SaysCause cause ends old new) → At ends Refused (CausedBy told ends old new)
by_refused told cause Done old new is says = tt
by_refused told cause Broken old new is says = tt
by_refused told cause Refused old new is says = caused told Refused cause old new is (λ same. let none : ⊥ = cc in none) says
by_refused told cause StoreFailed old new is says = tt
by_refused told cause SinkFailed old new is says = tt
by_refused told cause OutOfMemory old new is says = tt
by_refused told cause NoCommand old new is says = tt

pub by_store : (told : Option Cause) (cause : Cause) (ends : Status) (old new : Option (List ℕ)) → told ≡ Some cause → OnTrue (is_sink_quiet ends) (SaysCause cause ends old new) → At ends StoreFailed (StoreSays told old new)
by_store told cause Done old new is says = tt
by_store told cause Broken old new is says = tt
by_store told cause Refused old new is says = tt
by_store told cause StoreFailed old new is says = inr (caused told StoreFailed cause old new is (λ same. let none : ⊥ = cc in none) says)
by_store told cause SinkFailed old new is says = tt
by_store told cause OutOfMemory old new is says = tt
by_store told cause NoCommand old new is says = tt

memory_line : (cause : Cause) (old new : Option (List ℕ)) → OutOfMemory ≡ cause_status cause → new ≡ with_piece old (cause_line cause) → new ≡ with_piece old memory_refused
memory_line (Flattened fault) old new is took = absurd (let none : ⊥ = cc in none)
memory_line (Compressed fault) old new is took = absurd (let none : ⊥ = cc in none)
memory_line (Page bad) old new is took = absurd (let none : ⊥ = cc in none)
memory_line Memory old new is took = took

says_memory : (cause : Cause) (old new : Option (List ℕ)) → SaysCause cause OutOfMemory old new → new ≡ with_piece old memory_refused
says_memory cause old new (inl says) = memory_line cause old new says.0 says.1
says_memory cause old new (inr says) = says.1

pub by_memory : (cause : Cause) (ends : Status) (old new : Option (List ℕ)) → OnTrue (is_sink_quiet ends) (SaysCause cause ends old new) → At ends OutOfMemory (new ≡ with_piece old memory_refused)
by_memory cause Done old new says = tt
by_memory cause Broken old new says = tt
by_memory cause Refused old new says = tt
by_memory cause StoreFailed old new says = tt
by_memory cause SinkFailed old new says = tt
by_memory cause OutOfMemory old new says = says_memory cause old new says
by_memory cause NoCommand old new says = tt

-- ---- by a line at the status of a failed store

pub line_failed : (ends : Status) → OnTrue (is_sink_quiet ends) (ends ≡ StoreFailed) → is_failed ends ≡ true
line_failed Done is = absurd (let none : ⊥ = cc in none)
line_failed Broken is = absurd (let none : ⊥ = cc in none)
line_failed Refused is = absurd (let none : ⊥ = cc in none)
line_failed StoreFailed is = refl
line_failed SinkFailed is = refl
line_failed OutOfMemory is = absurd (let none : ⊥ = cc in none)
line_failed NoCommand is = absurd (let none : ⊥ = cc in none)

failed_unread : (ends : Status) → is_failed ends ≡ true → OnTrue (is_sink_quiet ends) (is_unread ends ≡ true)
failed_unread Done is = absurd (let none : ⊥ = cc in none)
failed_unread Broken is = absurd (let none : ⊥ = cc in none)
failed_unread Refused is = refl
failed_unread StoreFailed is = refl
failed_unread SinkFailed is = tt
failed_unread OutOfMemory is = refl
failed_unread NoCommand is = absurd (let none : ⊥ = cc in none)

pub line_unread : (ends : Status) → OnTrue (is_sink_quiet ends) (ends ≡ StoreFailed) → OnTrue (is_sink_quiet ends) (is_unread ends ≡ true)
line_unread ends is = failed_unread ends (line_failed ends is)

-- nothing is said of other statuses
pub failed_done : (P : Type 0) (ends : Status) → is_failed ends ≡ true → At ends Done P
failed_done P Done is = absurd (let none : ⊥ = cc in none)
failed_done P Broken is = tt
failed_done P Refused is = tt
failed_done P StoreFailed is = tt
failed_done P SinkFailed is = tt
failed_done P OutOfMemory is = tt
failed_done P NoCommand is = tt

failed_refused : (P : Type 0) (ends : Status) → is_failed ends ≡ true → At ends Refused P
failed_refused P Done is = tt
failed_refused P Broken is = tt
failed_refused P Refused is = absurd (let none : ⊥ = cc in none)
failed_refused P StoreFailed is = tt
failed_refused P SinkFailed is = tt
failed_refused P OutOfMemory is = tt
failed_refused P NoCommand is = tt

failed_memory : (P : Type 0) (ends : Status) → is_failed ends ≡ true → At ends OutOfMemory P
failed_memory P Done is = tt
failed_memory P Broken is = tt
failed_memory P Refused is = tt
failed_memory P StoreFailed is = tt
failed_memory P SinkFailed is = tt
failed_memory P OutOfMemory is = absurd (let none : ⊥ = cc in none)
failed_memory P NoCommand is = tt

pub line_refused : (P : Type 0) (ends : Status) → OnTrue (is_sink_quiet ends) (ends ≡ StoreFailed) → At ends Refused P
line_refused P ends is = failed_refused P ends (line_failed ends is)

pub line_memory : (P : Type 0) (ends : Status) → OnTrue (is_sink_quiet ends) (ends ≡ StoreFailed) → At ends OutOfMemory P
line_memory P ends is = failed_memory P ends (line_failed ends is)

pub at_store : (P Q : Type 0) (ends : Status) → (P → Q) → OnTrue (is_sink_quiet ends) P → At ends StoreFailed Q
at_store P Q Done follows p = tt
at_store P Q Broken follows p = tt
at_store P Q Refused follows p = tt
at_store P Q StoreFailed follows p = follows p
at_store P Q SinkFailed follows p = tt
at_store P Q OutOfMemory follows p = tt
at_store P Q NoCommand follows p = tt

-- ---- where the copy stopped

pub failed_copy : (ends : Status) → is_failed ends ≡ true → is_copy ends ≡ true
failed_copy Done is = refl
failed_copy Broken is = absurd (let none : ⊥ = cc in none)
failed_copy Refused is = absurd (let none : ⊥ = cc in none)
failed_copy StoreFailed is = refl
failed_copy SinkFailed is = refl
failed_copy OutOfMemory is = absurd (let none : ⊥ = cc in none)
failed_copy NoCommand is = absurd (let none : ⊥ = cc in none)

of_store : (P : Type 0) (stop : CopyStop) → stop ≡ Store → OnStore {A = Unit {0}} (Err stop) P → P
of_store P Store is p = p
of_store P Sink is p = absurd (let none : ⊥ = cc in none)

pub store_rose : (P : Type 0) (ends : Status) (stop : CopyStop) → At ends StoreFailed (stop ≡ Store) → OnStore {A = Unit {0}} (Err stop) P → At ends StoreFailed P
store_rose P Done stop is p = tt
store_rose P Broken stop is p = tt
store_rose P Refused stop is p = tt
store_rose P StoreFailed stop is p = of_store P stop is p
store_rose P SinkFailed stop is p = tt
store_rose P OutOfMemory stop is p = tt
store_rose P NoCommand stop is p = tt

of_sink : (P Q : Type 0) (stop : CopyStop) → (stop ≡ Sink) ⊎ Q → OnSink {A = Unit {0}} (Err stop) P → P ⊎ Q
of_sink P Q stop (inr q) p = inr q
of_sink P Q Sink (inl is) p = inl p
of_sink P Q Store (inl is) p = absurd (let none : ⊥ = cc in none)

pub sink_rose : (P Q : Type 0) (ends : Status) (stop : CopyStop) → At ends SinkFailed ((stop ≡ Sink) ⊎ Q) → OnSink {A = Unit {0}} (Err stop) P → At ends SinkFailed (P ⊎ Q)
sink_rose P Q Done stop is p = tt
sink_rose P Q Broken stop is p = tt
sink_rose P Q Refused stop is p = tt
sink_rose P Q StoreFailed stop is p = tt
sink_rose P Q SinkFailed stop is p = of_sink P Q stop is p
sink_rose P Q OutOfMemory stop is p = tt
sink_rose P Q NoCommand stop is p = tt

not_sink : (P : Type 0) (stop : CopyStop) → stop ≡ Store → UnlessSink {A = Unit {0}} (Err stop) P → P
not_sink P Store is p = p
not_sink P Sink is p = absurd (let none : ⊥ = cc in none)

pub quiet_out : (P : Type 0) (ends : Status) (stop : CopyStop) → is_failed ends ≡ true → At ends StoreFailed (stop ≡ Store) → UnlessSink {A = Unit {0}} (Err stop) P → OnTrue (is_sink_quiet ends) P
quiet_out P Done stop failed is p = absurd (let none : ⊥ = cc in none)
quiet_out P Broken stop failed is p = absurd (let none : ⊥ = cc in none)
quiet_out P Refused stop failed is p = absurd (let none : ⊥ = cc in none)
quiet_out P StoreFailed stop failed is p = not_sink P stop is p
quiet_out P SinkFailed stop failed is p = tt
quiet_out P OutOfMemory stop failed is p = absurd (let none : ⊥ = cc in none)
quiet_out P NoCommand stop failed is p = absurd (let none : ⊥ = cc in none)

pub out_stops : (P Q : Type 0) (stop : CopyStop) → UnlessSink {A = Unit {0}} (Err stop) P → OnSink {A = Unit {0}} (Err stop) Q → P ⊎ Q
out_stops P Q Store p q = inl p
out_stops P Q Sink p q = inr q

-- ---- both ends together

copy_core : (ends : Status) → is_copy ends ≡ true → is_core ends ≡ true
copy_core Done is = refl
copy_core Broken is = absurd (let none : ⊥ = cc in none)
copy_core Refused is = refl
copy_core StoreFailed is = refl
copy_core SinkFailed is = refl
copy_core OutOfMemory is = refl
copy_core NoCommand is = absurd (let none : ⊥ = cc in none)

copy_refused : (P : Type 0) (ends : Status) → is_copy ends ≡ true → At ends Refused P
copy_refused P Done is = tt
copy_refused P Broken is = tt
copy_refused P Refused is = absurd (let none : ⊥ = cc in none)
copy_refused P StoreFailed is = tt
copy_refused P SinkFailed is = tt
copy_refused P OutOfMemory is = tt
copy_refused P NoCommand is = tt

copy_memory : (P : Type 0) (ends : Status) → is_copy ends ≡ true → At ends OutOfMemory P
copy_memory P Done is = tt
copy_memory P Broken is = tt
copy_memory P Refused is = tt
copy_memory P StoreFailed is = tt
copy_memory P SinkFailed is = tt
copy_memory P OutOfMemory is = absurd (let none : ⊥ = cc in none)
copy_memory P NoCommand is = tt

pub copy_silent : (P : Type 0) (ends : Status) → is_copy ends ≡ true → OnTrue (is_unopened ends) P
copy_silent P Done is = tt
copy_silent P Broken is = tt
copy_silent P Refused is = absurd (let none : ⊥ = cc in none)
copy_silent P StoreFailed is = tt
copy_silent P SinkFailed is = tt
copy_silent P OutOfMemory is = absurd (let none : ⊥ = cc in none)
copy_silent P NoCommand is = tt

pub copy_rose : (P : Type 0) (ends : Status) → is_copy ends ≡ true → At ends StoreFailed P → OnTrue (is_unread ends) P
copy_rose P Done is p = tt
copy_rose P Broken is p = tt
copy_rose P Refused is p = absurd (let none : ⊥ = cc in none)
copy_rose P StoreFailed is p = p
copy_rose P SinkFailed is p = tt
copy_rose P OutOfMemory is p = absurd (let none : ⊥ = cc in none)
copy_rose P NoCommand is p = tt

-- ---- by a line at the status of a copy that was written whole

pub done_copy : (ends : Status) → OnTrue (is_sink_quiet ends) (ends ≡ Done) → is_copy ends ≡ true
done_copy Done is = refl
done_copy Broken is = absurd (let none : ⊥ = cc in none)
done_copy Refused is = absurd (let none : ⊥ = cc in none)
done_copy StoreFailed is = refl
done_copy SinkFailed is = refl
done_copy OutOfMemory is = absurd (let none : ⊥ = cc in none)
done_copy NoCommand is = absurd (let none : ⊥ = cc in none)

pub done_store : (P : Type 0) (ends : Status) → OnTrue (is_sink_quiet ends) (ends ≡ Done) → At ends StoreFailed P
done_store P Done is = tt
done_store P Broken is = tt
done_store P Refused is = tt
done_store P StoreFailed is = absurd (let none : ⊥ = cc in none)
done_store P SinkFailed is = tt
done_store P OutOfMemory is = tt
done_store P NoCommand is = tt

pub at_done : (P Q : Type 0) (ends : Status) → (P → Q) → OnTrue (is_sink_quiet ends) P → At ends Done Q
at_done P Q Done follows p = follows p
at_done P Q Broken follows p = tt
at_done P Q Refused follows p = tt
at_done P Q StoreFailed follows p = tt
at_done P Q SinkFailed follows p = tt
at_done P Q OutOfMemory follows p = tt
at_done P Q NoCommand follows p = tt

pub at_sink : (P Q : Type 0) (ends : Status) → At ends SinkFailed Q → At ends SinkFailed (P ⊎ Q)
at_sink P Q Done q = tt
at_sink P Q Broken q = tt
at_sink P Q Refused q = tt
at_sink P Q StoreFailed q = tt
at_sink P Q SinkFailed q = inr q
at_sink P Q OutOfMemory q = tt
at_sink P Q NoCommand q = tt

pub always : (P : Type 0) (b : Bool) → P → OnTrue b P
always P true p = p
always P false p = tt

-- whether the dump lacks pages, by its bytes
pub told_whole : (opened held : Option (List ℕ)) (is : Bool) → IsSome opened → ((name : List ℕ) → opened ≡ Some name → IfSome held (λ bytes. is ≡ is_complete bytes)) → IfSome held (λ bytes. is_complete bytes ≡ is)
told_whole None held is there whole = absurd (let none : ⊥ = cc in none)
told_whole (Some name) None is there whole = tt
told_whole (Some name) (Some bytes) is there whole = sym (whole name refl)

-- what is shown stays with the files and the name
pub shown_same : (one two : Option Files) (first then : Slot → Option (List ℕ)) (seen : Option (List ℕ)) → two ≡ one → then ≡ first → content two Dump (then Dump) ≡ seen → content one Dump (first Dump) ≡ seen
shown_same one two first then seen files opened shown = ap (λ (f : Option Files). content f Dump (first Dump)) (sym files) ∙ ap (λ (o : Slot → Option (List ℕ)). content two Dump (o Dump)) (sym opened) ∙ shown

-- where the dump was opened
pub opened_ends : (files : Option Files) (name : List ℕ) (file held : Option (List ℕ)) (told : Option Cause) (ends : Status) (out_old out_new err_old err_new : Option (List ℕ)) → is_copy ends ≡ true
    → At ends Done (IfSome (named files Dump name) (λ bytes. out_new ≡ with_piece out_old bytes)) → named files Dump name ≡ option_and_then seen_bytes held
    → At ends Done (DoneSays held err_old err_new) → IsTrueOf told file held → IsMeant file held → At ends StoreFailed (StoreSays told err_old err_new)
    → CoreEnds files name file held told ends out_old out_new err_old err_new
opened_ends files name file held told ends out_old out_new err_old err_new is whole shown said is_true means store = record {
  status = copy_core ends is;
  whole = whole;
  shown = always _ (nat_eq (number ends) 0) shown;
  said = said;
  means = means;
  is_true = is_true;
  refused = copy_refused _ ends is;
  store = store;
  memory = copy_memory _ ends is;
  silent = copy_silent _ ends is;
}

unread_core : (ends : Status) → OnTrue (is_sink_quiet ends) (is_unread ends ≡ true) → is_core ends ≡ true
unread_core Done is = refl
unread_core Broken is = absurd (let none : ⊥ = cc in none)
unread_core Refused is = refl
unread_core StoreFailed is = refl
unread_core SinkFailed is = refl
unread_core OutOfMemory is = refl
unread_core NoCommand is = absurd (let none : ⊥ = cc in none)

pub unread_done : (P : Type 0) (ends : Status) → OnTrue (is_sink_quiet ends) (is_unread ends ≡ true) → At ends Done P
unread_done P Done is = absurd (let none : ⊥ = cc in none)
unread_done P Broken is = tt
unread_done P Refused is = tt
unread_done P StoreFailed is = tt
unread_done P SinkFailed is = tt
unread_done P OutOfMemory is = tt
unread_done P NoCommand is = tt

-- where it wasn't
pub unopened_ends : (files : Option Files) (name : List ℕ) (file held : Option (List ℕ)) (told : Option Cause) (ends : Status) (out err_old err_new : Option (List ℕ)) → OnTrue (is_sink_quiet ends) (is_unread ends ≡ true) → IsTrueOf told file held → IsMeant file held
    → At ends Refused (CausedBy told ends err_old err_new) → At ends StoreFailed (StoreSays told err_old err_new) → At ends OutOfMemory (err_new ≡ with_piece err_old memory_refused)
    → CoreEnds files name file held told ends out out err_old err_new
unopened_ends files name file held told ends out err_old err_new is is_true means refused store memory = record {
  status = unread_core ends is;
  whole = unread_done _ ends is;
  shown = unread_done _ ends is;
  said = unread_done _ ends is;
  means = means;
  is_true = is_true;
  refused = refused;
  store = store;
  memory = memory;
  silent = always _ (is_unopened ends) refl;
}
