-- What stays of a store and of a sink over two calls.
use Rattle.std.proofs.Common.{◌≡◌, ℕ, List, Option, ap, subst, ◌∙◌, arith}
use Rattle.kc_outside.specs.declared.store.Slot.{Slot}
use Rattle.kc_outside.specs.declared.store.Slot.TheVariants.{Dump}
use Rattle.kc_outside.specs.Files.{Files, content}
use Rattle.kc_elf.specs.Stays.{StoreStays}
use Rattle.kc_sight.specs.Refs.Stops.{Told}
use Rattle.kc_command.specs.Ends.Last.{FailedLast}

pub stays_on : {M : Type 0} (opened : M → Slot → Option (List ℕ)) (sizes : M → Slot → Option ℕ) (files : M → Option Files) (may : M → Slot → List ℕ → Type 0) (asked : M → ℕ) (old mid new : M)
    → StoreStays opened sizes files may asked old mid → StoreStays opened sizes files may asked mid new → StoreStays opened sizes files may asked old new
stays_on opened sizes files may asked old mid new first second = record {
  same_opened = second.same_opened ∙ first.same_opened;
  same_sizes = second.same_sizes ∙ first.same_sizes;
  same_files = second.same_files ∙ first.same_files;
  may_still = λ s n then. second.may_still s n (first.may_still s n then);
  may_no_more = λ s n then. first.may_no_more s n (second.may_no_more s n then);
  asked_later = omega (arith, first.asked_later, second.asked_later);
}

-- the dump's bytes are the same
pub same_content : {M : Type 0} (opened : M → Slot → Option (List ℕ)) (sizes : M → Slot → Option ℕ) (files : M → Option Files) (may : M → Slot → List ℕ → Type 0) (asked : M → ℕ) (old new : M)
    → StoreStays opened sizes files may asked old new → content (files new) Dump (opened new Dump) ≡ content (files old) Dump (opened old Dump)
same_content opened sizes files may asked old new stays =
    ap (λ (f : Option Files). content f Dump (opened new Dump)) stays.same_files ∙ ap (λ (o : Slot → Option (List ℕ)). content (files old) Dump (o Dump)) stays.same_opened

pub told_before : {M : Type 0} (opened : M → Slot → Option (List ℕ)) (sizes : M → Slot → Option ℕ) (files : M → Option Files) (may : M → Slot → List ℕ → Type 0) (asked : M → ℕ) (old new : M) (P : List ℕ → Type 0)
    → StoreStays opened sizes files may asked old new → Told (content (files new) Dump (opened new Dump)) P → Told (content (files old) Dump (opened old Dump)) P
told_before opened sizes files may asked old new P stays told =
    subst (λ (c : Option (List ℕ)). Told c P) (same_content opened sizes files may asked old new stays) told

-- a sink that failed last after a call in which it didn't fail
pub failed_after : {K : Type 0} (taken : K → Option (List ℕ)) (faults asked : K → ℕ) (old mid new : K) → faults mid ≡ faults old → FailedLast taken faults asked mid new → FailedLast taken faults asked old new
failed_after taken faults asked old mid new same failed =
    record { before = failed.before; unfailed = failed.unfailed ∙ same; failed = failed.failed; took = failed.took; called = failed.called }
