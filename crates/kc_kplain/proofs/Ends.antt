-- How the program ends by how kaudit did.
use Rattle.std.proofs.Common.{◌≡◌, ◌⊎◌, ℕ, ◌<◌, Bool, true, false, ◌||◌, nat_eq, List, Option, Some, None, IfSome, refl, ◌∙◌, subst, inl, inr, arith}
use Rattle.std.specs.Prelude.{IsTrue}
use Rattle.std.specs.Bool.{OnTrue, OnFalse}
use Rattle.kc_outside.specs.declared.store.Slot.{Slot}
use Rattle.kc_outside.specs.Counts.{Rose}
use Rattle.kc_outside.specs.Files.{Files}
use Rattle.kc_outside.specs.Texts.{with_piece}
use Rattle.kc_command.specs.declared.ends.status.Status.{Status}
use Rattle.kc_command.specs.declared.ends.status.Status.TheVariants.{Done, Broken, Refused, StoreFailed, SinkFailed, OutOfMemory, NoCommand}
use Rattle.kc_command.specs.Inputs.{view_headers}
use Rattle.kc_command.specs.Ends.Failures.{memory_refused, store_failed}
use Rattle.kc_command.specs.Ends.Last.{StopsAtFailure}
use Rattle.kc_command.specs.Ends.Status.{At, is_answer, is_silent, is_sink_quiet, is_store_quiet, number}
use Rattle.kc_command.specs.Ends.Unopened.{AskedStay}
use Rattle.kc_any_dump.specs.declared.cause.Cause.{Cause}
use Rattle.kc_any_dump.specs.Causes.{IsTrueOf, SaysAny, SaysCause, is_unread}
use Rattle.kc_app.specs.CertHeadline.{CertifyEnds, RecheckEnds}
use Rattle.kc_app.specs.Headline.{CheckEnds, CheckPrints}
use Rattle.kc_app.specs.ModuleHeadline.{ModuleCheckEnds, ModuleCheckPrints}
use Rattle.kc_app.specs.Output.{IsToldBy, TookTrue, out_of}
use Rattle.kc_app.specs.Program.{program}
use Rattle.kc_kplain.specs.Outcomes.{AuditEnds, SaysAfter, is_settled}

-- what kaudit says of its own end, as far as it is wanted
pub record OwnEnds (words : List (List ℕ)) (files : Option Files) (opened_old opened_new : Slot → Option (List ℕ)) (ends : Status) (out_old out_new err_old err_new : Option (List ℕ)) : Type 0 where
  pub told : OnTrue (is_answer ends) (IsToldBy view_headers words files ends out_old out_new err_old err_new)
  pub stands : OnTrue (is_answer ends) (IfSome files (λ f. CheckEnds view_headers words f ends))
  pub stands_with_module : OnTrue (is_answer ends) (IfSome files (λ f. ModuleCheckEnds view_headers words f ends))
  pub roots : OnTrue (is_answer ends) (IfSome files (λ f. CheckPrints view_headers words f out_old out_new))
  pub roots_with_module : OnTrue (is_answer ends) (IfSome files (λ f. ModuleCheckPrints view_headers words f out_old out_new))
  pub shown : OnTrue (is_answer ends) (IfSome files (λ f. TookTrue (out_of view_headers words f) out_old out_new))
  pub certified : OnTrue (is_answer ends) (IfSome files (λ f. CertifyEnds view_headers words f ends out_old out_new))
  pub rechecked : OnTrue (is_answer ends) (IfSome files (λ f. RecheckEnds view_headers words f ends out_old out_new err_old err_new))
  pub unopened : At ends Refused (AskedStay (program view_headers words) files opened_old opened_new)
  pub store_text : At ends StoreFailed (err_new ≡ with_piece err_old store_failed)
  pub memory_text : At ends OutOfMemory (err_new ≡ with_piece err_old memory_refused)
  pub silent : OnTrue (is_silent ends) (out_new ≡ out_old)

settled : (P : Type 0) (ends : Status) → OnTrue (is_answer ends) P → OnTrue (is_settled ends) P
settled P Done p = p
settled P Broken p = p
settled P Refused p = tt
settled P StoreFailed p = tt
settled P SinkFailed p = tt
settled P OutOfMemory p = tt
settled P NoCommand p = p

own_refused : (P Q R : Type 0) (ends : Status) → OnTrue (is_answer ends) P → At ends Refused Q → At ends Refused ((P × Q) ⊎ R)
own_refused P Q R Done p q = tt
own_refused P Q R Broken p q = tt
own_refused P Q R Refused p q = inl (p, q)
own_refused P Q R StoreFailed p q = tt
own_refused P Q R SinkFailed p q = tt
own_refused P Q R OutOfMemory p q = tt
own_refused P Q R NoCommand p q = tt

on_left : (P R : Type 0) (b : Bool) → OnTrue b P → OnTrue b (P ⊎ R)
on_left P R true p = inl p
on_left P R false p = tt

never : (P : Type 0) (b : Bool) → b ≡ false → OnTrue b P
never P true is = absurd (let none : ⊥ = cc in none)
never P false is = tt

-- where kaudit's end stays, it is the program's
own_end : (words : List (List ℕ)) (files : Option Files) (file held : Option (List ℕ)) (told : Option Cause) (opened_old opened_new : Slot → Option (List ℕ)) (ends : Status) (out_old out_new err_old err_new : Option (List ℕ))
    → nat_eq (number ends) 3 ≡ false → IsTrueOf told file held
    → OwnEnds words files opened_old opened_new ends out_old out_new err_old err_new → AuditEnds words files file held told opened_old opened_new ends out_old out_new err_old err_new
own_end words files file held told opened_old opened_new ends out_old out_new err_old err_new other is_true own = record {
  told = settled _ ends own.told;
  stands = settled _ ends own.stands;
  stands_with_module = settled _ ends own.stands_with_module;
  roots = settled _ ends own.roots;
  roots_with_module = settled _ ends own.roots_with_module;
  shown = settled _ ends own.shown;
  certified = settled _ ends own.certified;
  rechecked = settled _ ends own.rechecked;
  refused = own_refused _ _ _ ends own.told own.unopened;
  store = never _ (nat_eq (number ends) 3) other;
  memory = on_left _ _ (nat_eq (number ends) 5) own.memory_text;
  is_true = is_true;
  silent = own.silent;
}

-- by a cause no program ends with an answer
unsettled : (P : Type 0) (ends : Status) → OnTrue (is_sink_quiet ends) (is_unread ends ≡ true) → OnTrue (is_settled ends) P
unsettled P Done unread = absurd (let none : ⊥ = cc in none)
unsettled P Broken unread = absurd (let none : ⊥ = cc in none)
unsettled P Refused unread = tt
unsettled P StoreFailed unread = tt
unsettled P SinkFailed unread = tt
unsettled P OutOfMemory unread = tt
unsettled P NoCommand unread = absurd (let none : ⊥ = cc in none)

-- what standard error took where the store failed in kaudit
after : (told : Option Cause) (ends : Status) (old mid new : Option (List ℕ)) → mid ≡ with_piece old store_failed → SaysAny told ends mid new
    → ((ends ≡ StoreFailed) × ((told ≡ None) × (new ≡ with_piece old store_failed))) ⊎ SaysAfter told ends old new
after None ends old mid new text says = inl (says.0, (refl, says.1 ∙ text))
after (Some cause) ends old mid new text says = inr (cause, refl, subst (λ (e : Option (List ℕ)). SaysCause cause ends e new) text says)

only_after : (ends : Status) {P Q : Type 0} → (ends ≡ StoreFailed → ⊥) → ((ends ≡ StoreFailed) × P) ⊎ Q → Q
only_after ends other (inl is) = absurd (other is.0)
only_after ends other (inr q) = q

at_refused : (P Q R : Type 0) (ends : Status) → OnTrue (is_sink_quiet ends) (((ends ≡ StoreFailed) × P) ⊎ Q) → At ends Refused (R ⊎ Q)
at_refused P Q R Done said = tt
at_refused P Q R Broken said = tt
at_refused P Q R Refused said = inr (only_after Refused (λ is. let none : ⊥ = cc in none) said)
at_refused P Q R StoreFailed said = tt
at_refused P Q R SinkFailed said = tt
at_refused P Q R OutOfMemory said = tt
at_refused P Q R NoCommand said = tt

at_store : (P Q : Type 0) (ends : Status) → OnTrue (is_sink_quiet ends) (((ends ≡ StoreFailed) × P) ⊎ Q) → At ends StoreFailed (P ⊎ Q)
at_store P Q Done said = tt
at_store P Q Broken said = tt
at_store P Q Refused said = tt
at_store P Q StoreFailed (inl said) = inl said.1
at_store P Q StoreFailed (inr said) = inr said
at_store P Q SinkFailed said = tt
at_store P Q OutOfMemory said = tt
at_store P Q NoCommand said = tt

at_memory : (P Q R : Type 0) (ends : Status) → OnTrue (is_sink_quiet ends) (((ends ≡ StoreFailed) × P) ⊎ Q) → At ends OutOfMemory (R ⊎ Q)
at_memory P Q R Done said = tt
at_memory P Q R Broken said = tt
at_memory P Q R Refused said = tt
at_memory P Q R StoreFailed said = tt
at_memory P Q R SinkFailed said = tt
at_memory P Q R OutOfMemory said = inr (only_after OutOfMemory (λ is. let none : ⊥ = cc in none) said)
at_memory P Q R NoCommand said = tt

under : {P Q : Type 0} (b : Bool) → (P → Q) → OnTrue b P → OnTrue b Q
under true follows p = follows p
under false follows p = tt

always : {P : Type 0} (b : Bool) → P → OnTrue b P
always true p = p
always false p = tt

-- where the store failed in kaudit, the program ends by a cause or by none
caused_end : (words : List (List ℕ)) (files : Option Files) (file held : Option (List ℕ)) (told : Option Cause) (opened_old opened_new : Slot → Option (List ℕ)) (ends : Status) (out_old out_new err_old err_mid err_new : Option (List ℕ))
    → err_mid ≡ with_piece err_old store_failed → out_new ≡ out_old → IsTrueOf told file held
    → OnTrue (is_sink_quiet ends) (SaysAny told ends err_mid err_new) → OnTrue (is_sink_quiet ends) (is_unread ends ≡ true)
    → AuditEnds words files file held told opened_old opened_new ends out_old out_new err_old err_new
caused_end words files file held told opened_old opened_new ends out_old out_new err_old err_mid err_new text silent is_true says unread =
    let said = under (is_sink_quiet ends) (after told ends err_old err_mid err_new text) says in
    record {
      told = unsettled _ ends unread;
      stands = unsettled _ ends unread;
      stands_with_module = unsettled _ ends unread;
      roots = unsettled _ ends unread;
      roots_with_module = unsettled _ ends unread;
      shown = unsettled _ ends unread;
      certified = unsettled _ ends unread;
      rechecked = unsettled _ ends unread;
      refused = at_refused _ _ _ ends said;
      store = at_store _ _ ends said;
      memory = at_memory _ _ _ ends said;
      is_true = is_true;
      silent = always (is_silent ends) silent;
    }

-- by both
pub audit_ends : (words : List (List ℕ)) (files : Option Files) (file held : Option (List ℕ)) (told : Option Cause) (opened_old opened_new : Slot → Option (List ℕ)) (own ends : Status) (out_old out_new err_old err_mid err_new : Option (List ℕ))
    → OwnEnds words files opened_old opened_new own out_old out_new err_old err_mid
    → OnFalse (nat_eq (number own) 3) (ends ≡ own) → OnFalse (nat_eq (number own) 3) (err_new ≡ err_mid)
    → IsTrueOf told file held → At own StoreFailed (OnTrue (is_sink_quiet ends) (SaysAny told ends err_mid err_new)) → At own StoreFailed (OnTrue (is_sink_quiet ends) (is_unread ends ≡ true))
    → AuditEnds words files file held told opened_old opened_new ends out_old out_new err_old err_new
audit_ends words files file held told opened_old opened_new StoreFailed ends out_old out_new err_old err_mid err_new k same err is_true says unread =
    caused_end words files file held told opened_old opened_new ends out_old out_new err_old err_mid err_new k.store_text k.silent is_true says unread
audit_ends words files file held told opened_old opened_new Done ends out_old out_new err_old err_mid err_new k same err is_true says unread =
    rw (same, err) (own_end words files file held told opened_old opened_new Done out_old out_new err_old err_mid refl is_true k)
audit_ends words files file held told opened_old opened_new Broken ends out_old out_new err_old err_mid err_new k same err is_true says unread =
    rw (same, err) (own_end words files file held told opened_old opened_new Broken out_old out_new err_old err_mid refl is_true k)
audit_ends words files file held told opened_old opened_new Refused ends out_old out_new err_old err_mid err_new k same err is_true says unread =
    rw (same, err) (own_end words files file held told opened_old opened_new Refused out_old out_new err_old err_mid refl is_true k)
audit_ends words files file held told opened_old opened_new SinkFailed ends out_old out_new err_old err_mid err_new k same err is_true says unread =
    rw (same, err) (own_end words files file held told opened_old opened_new SinkFailed out_old out_new err_old err_mid refl is_true k)
audit_ends words files file held told opened_old opened_new OutOfMemory ends out_old out_new err_old err_mid err_new k same err is_true says unread =
    rw (same, err) (own_end words files file held told opened_old opened_new OutOfMemory out_old out_new err_old err_mid refl is_true k)
audit_ends words files file held told opened_old opened_new NoCommand ends out_old out_new err_old err_mid err_new k same err is_true says unread =
    rw (same, err) (own_end words files file held told opened_old opened_new NoCommand out_old out_new err_old err_mid refl is_true k)

-- ---- counts and calls

-- what is said at a status of kaudit's that a failure of the store has too is said at the program's
pub carried : (P : Type 0) (f : Status → Bool) (own ends : Status) → f StoreFailed ≡ true → OnFalse (nat_eq (number own) 3) (ends ≡ own) → OnTrue (f own) P → OnTrue (f ends) P
carried P f StoreFailed ends is same p = always (f ends) (rw is at p)
carried P f Done ends is same p = rw same p
carried P f Broken ends is same p = rw same p
carried P f Refused ends is same p = rw same p
carried P f SinkFailed ends is same p = rw same p
carried P f OutOfMemory ends is same p = rw same p
carried P f NoCommand ends is same p = rw same p

pub quiet_store : (P : Type 0) (own ends : Status) → OnFalse (nat_eq (number own) 3) (ends ≡ own) → At own StoreFailed (OnTrue (is_sink_quiet ends) (is_unread ends ≡ true))
    → OnTrue (is_store_quiet own) P → OnTrue (is_settled ends) P
quiet_store P StoreFailed ends same unread p = unsettled _ ends unread
quiet_store P Done ends same unread p = rw same p
quiet_store P Broken ends same unread p = rw same p
quiet_store P Refused ends same unread p = rw same tt
quiet_store P SinkFailed ends same unread p = rw same tt
quiet_store P OutOfMemory ends same unread p = rw same tt
quiet_store P NoCommand ends same unread p = rw same p

both : (A : Type 0) (b : Bool) (x y z : A) → OnTrue b (y ≡ x) → OnTrue b (z ≡ y) → OnTrue b (z ≡ x)
both A true x y z one two = two ∙ one
both A false x y z one two = tt

pub quiet_err : (A : Type 0) (own ends : Status) (x y z : A) → OnFalse (nat_eq (number own) 3) (ends ≡ own) → OnTrue (is_sink_quiet own) (y ≡ x) → OnTrue (is_sink_quiet ends) (z ≡ y) → OnTrue (is_sink_quiet ends) (z ≡ x)
quiet_err A own ends x y z same one two = both A (is_sink_quiet ends) x y z (carried _ is_sink_quiet own ends refl same one) two

pub sink_ends : (A : Type 0) (own ends : Status) (old mid new : ℕ) → OnFalse (nat_eq (number own) 3) (ends ≡ own) → OnFalse (nat_eq (number own) 3) (new ≡ mid)
    → At own SinkFailed (A ⊎ Rose old mid) → OnTrue (is_sink_quiet own) (mid ≡ old) → At own StoreFailed (At ends SinkFailed (Rose mid new)) → At ends SinkFailed (A ⊎ Rose old new)
sink_ends A StoreFailed ends old mid new same stays failed quiet caused = under (nat_eq (number ends) 4) (λ rose. inr (subst (λ (n : ℕ). Rose n new) quiet rose)) caused
sink_ends A SinkFailed ends old mid new same stays failed quiet caused = rw (same, stays) failed
sink_ends A Done ends old mid new same stays failed quiet caused = rw same tt
sink_ends A Broken ends old mid new same stays failed quiet caused = rw same tt
sink_ends A Refused ends old mid new same stays failed quiet caused = rw same tt
sink_ends A OutOfMemory ends old mid new same stays failed quiet caused = rw same tt
sink_ends A NoCommand ends old mid new same stays failed quiet caused = rw same tt

pub completed : {V O : Type 0} (own ends : Status) (old mid new : ℕ) → OnFalse (nat_eq (number own) 3) (ends ≡ own) → OnFalse (nat_eq (number own) 3) (new ≡ mid) → At own StoreFailed V
    → ((V → ⊥) → (O → ⊥) → (Rose old mid → ⊥) → IsTrue (is_answer own || nat_eq (number own) 5))
    → (V → ⊥) → (O → ⊥) → (Rose old new → ⊥) → IsTrue (is_answer ends || nat_eq (number ends) 5)
completed StoreFailed ends old mid new same stays failed complete store out err = absurd (store failed)
completed Done ends old mid new same stays failed complete store out err = rw same refl
completed Broken ends old mid new same stays failed complete store out err = rw same refl
completed Refused ends old mid new same stays failed complete store out err = rw same refl
completed SinkFailed ends old mid new same stays failed complete store out err = rw same (complete store out (λ rose. err (rw stays rose)))
completed OutOfMemory ends old mid new same stays failed complete store out err = rw same refl
completed NoCommand ends old mid new same stays failed complete store out err = rw same refl

pub part_ends : (T : Type 0) (own ends : Status) (old new : ℕ) → OnFalse (nat_eq (number own) 3) (ends ≡ own) → OnTrue (is_sink_quiet own) (new ≡ old)
    → At own SinkFailed (old < new → T) → At ends SinkFailed (old < new → T)
part_ends T StoreFailed ends old new same quiet took = always (nat_eq (number ends) 4) (λ more. absurd (omega (arith, quiet, more)))
part_ends T SinkFailed ends old new same quiet took = rw same took
part_ends T Done ends old new same quiet took = rw same tt
part_ends T Broken ends old new same quiet took = rw same tt
part_ends T Refused ends old new same quiet took = rw same tt
part_ends T OutOfMemory ends old new same quiet took = rw same tt
part_ends T NoCommand ends old new same quiet took = rw same tt

pub nothing_ends : (A B T : Type 0) (own ends : Status) → OnFalse (nat_eq (number own) 3) (ends ≡ own) → OnTrue (is_silent own) T
    → At own SinkFailed (A → B → T) → At ends SinkFailed (A → B → T)
nothing_ends A B T StoreFailed ends same silent nothing = always (nat_eq (number ends) 4) (λ few stays. silent)
nothing_ends A B T SinkFailed ends same silent nothing = rw same nothing
nothing_ends A B T Done ends same silent nothing = rw same tt
nothing_ends A B T Broken ends same silent nothing = rw same tt
nothing_ends A B T Refused ends same silent nothing = rw same tt
nothing_ends A B T OutOfMemory ends same silent nothing = rw same tt
nothing_ends A B T NoCommand ends same silent nothing = rw same tt

-- a sink that didn't fail, and then is called until it fails
pub stops_later : {K : Type 0} (taken : K → Option (List ℕ)) (faults asked : K → ℕ) (old mid new : K) → faults mid ≡ faults old → StopsAtFailure taken faults asked mid new → StopsAtFailure taken faults asked old new
stops_later taken faults asked old mid new quiet (inl same) = inl (same ∙ quiet)
stops_later taken faults asked old mid new quiet (inr last) = inr (record {
  before = last.before;
  unfailed = last.unfailed ∙ quiet;
  failed = last.failed;
  took = last.took;
  called = last.called;
})

pub stops_ends : {K : Type 0} (taken : K → Option (List ℕ)) (faults asked : K → ℕ) (old mid new : K) (own : Status)
    → OnFalse (nat_eq (number own) 3) (new ≡ mid) → OnTrue (is_sink_quiet own) (faults mid ≡ faults old)
    → StopsAtFailure taken faults asked old mid → StopsAtFailure taken faults asked mid new → StopsAtFailure taken faults asked old new
stops_ends taken faults asked old mid new StoreFailed stays quiet first then = stops_later taken faults asked old mid new quiet then
stops_ends taken faults asked old mid new Done stays quiet first then = rw stays first
stops_ends taken faults asked old mid new Broken stays quiet first then = rw stays first
stops_ends taken faults asked old mid new Refused stays quiet first then = rw stays first
stops_ends taken faults asked old mid new SinkFailed stays quiet first then = rw stays first
stops_ends taken faults asked old mid new OutOfMemory stays quiet first then = rw stays first
stops_ends taken faults asked old mid new NoCommand stays quiet first then = rw stays first

pub under_false : {P Q : Type 0} (b : Bool) → (P → Q) → OnFalse b P → OnFalse b Q
under_false true follows p = tt
under_false false follows p = follows p
