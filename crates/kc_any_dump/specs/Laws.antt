-- What always holds of the store that shows dumps of any form.
use Rattle.std.specs.Prelude.{◌≡◌, ℕ, true, List, Option, Some, None, IsSome, IfSome, option_and_then}
use Rattle.std.proofs.Common.{refl, sym, subst}
use Rattle.kc_outside.specs.declared.store.Slot.TheVariants.{Dump}
use Rattle.kc_outside.specs.Files.{Files, content}
use Rattle.kc_flattened.specs.declared.fault.FlatFault.{FlatFault}
use Rattle.kc_kdump.specs.declared.fault.KdumpFault.{KdumpFault}
use Rattle.kc_flattened_store.specs.declared.shape.FlatShape.{FlatShape}
use Rattle.kc_flattened_store.specs.declared.stop.FlattenedFault.{FlattenedFault}
use Rattle.kc_flattened_store.specs.declared.stop.FlattenedFault.TheVariants as flattened
use Rattle.kc_flattened_store.specs.Faults.{refusal as flat_refusal}
use Rattle.kc_flattened_store.specs.Seen.{opened_by as flat_opened, seen_bytes as flat_bytes, seen_files as flat_files}
use Rattle.kc_flattened_store.specs.StoreLaws.{content_seen as flat_content}
use Rattle.kc_plain_store.specs.declared.shape.PlainShape.{PlainShape}
use Rattle.kc_plain_store.specs.declared.stop.BadPage.{BadPage}
use Rattle.kc_plain_store.specs.declared.stop.ViewFault.{ViewFault}
use Rattle.kc_plain_store.specs.declared.stop.ViewFault.TheVariants as view
use Rattle.kc_plain_store.specs.Faults.{page_fault, refusal}
use Rattle.kc_plain_store.specs.Seen.{opened_by, seen_bytes, seen_files}
use Rattle.kc_plain_store.specs.ViewLaws.{content_seen}
use Rattle.kc_any_dump.specs.declared.cause.Cause.{Cause}
use Rattle.kc_any_dump.specs.declared.cause.Cause.TheVariants.{Flattened, Compressed, Page, Memory}
use Rattle.kc_any_dump.specs.Causes.{IsCauseIn, IsMeant, IsTrueOf, dump_cause, flattened_cause}

-- what is known of bytes wherever they are known
where_known : (o : Option (List ℕ)) (P : List ℕ → Type 0) → ((bytes : List ℕ) → o ≡ Some bytes → P bytes) → IfSome o P
where_known None P all = tt
where_known (Some bytes) P all = all bytes refl

flattened_true : (below : Option FlattenedFault) (file held : Option (List ℕ)) (cause : Cause)
    → ((fault : FlatFault) (bytes : List ℕ) → below ≡ Some (flattened.Refused fault) → file ≡ Some bytes → flat_refusal bytes ≡ Some fault)
    → flattened_cause below ≡ Some cause → IsCauseIn file held cause
flattened_true None file held cause unflat is = let none : ⊥ = Prim.cc in absurd none
flattened_true (Some flattened.Store) file held cause unflat is = let none : ⊥ = Prim.cc in absurd none
flattened_true (Some (flattened.Refused fault)) file held cause unflat is =
    let same : Flattened fault ≡ cause = Prim.cc in
    subst (λ (c : Cause). IsCauseIn file held c) same (where_known file (λ bytes. flat_refusal bytes ≡ Some fault) (λ bytes here. unflat fault bytes refl here))
flattened_true (Some flattened.NoMemory) file held cause unflat is = let same : Memory ≡ cause = Prim.cc in subst (λ (c : Cause). IsCauseIn file held c) same tt

-- the cause that a store tells is what its bytes say
pub cause_true : (last : Option ViewFault) (below : Option FlattenedFault) (file held : Option (List ℕ))
    → ((fault : FlatFault) (bytes : List ℕ) → below ≡ Some (flattened.Refused fault) → file ≡ Some bytes → flat_refusal bytes ≡ Some fault)
    → ((fault : KdumpFault) (bytes : List ℕ) → last ≡ Some (view.Refused fault) → held ≡ Some bytes → refusal bytes ≡ Some fault)
    → ((bad : BadPage) (bytes : List ℕ) → last ≡ Some (view.Page bad) → held ≡ Some bytes → page_fault bytes bad.number ≡ Some bad.fault)
    → IsTrueOf (dump_cause last below) file held
cause_true None below file held unflat refused bad cause is = let none : ⊥ = Prim.cc in absurd none
cause_true (Some view.Store) below file held unflat refused bad cause is = flattened_true below file held cause unflat is
cause_true (Some (view.Refused fault)) below file held unflat refused bad cause is =
    let same : Compressed fault ≡ cause = Prim.cc in
    subst (λ (c : Cause). IsCauseIn file held c) same (where_known held (λ bytes. refusal bytes ≡ Some fault) (λ bytes here. refused fault bytes refl here))
cause_true (Some (view.Page wrong)) below file held unflat refused bad cause is =
    let same : Page wrong ≡ cause = Prim.cc in
    subst (λ (c : Cause). IsCauseIn file held c) same (where_known held (λ bytes. page_fault bytes wrong.number ≡ Some wrong.fault) (λ bytes here. bad wrong bytes refl here))
cause_true (Some view.NoMemory) below file held unflat refused bad cause is = let same : Memory ≡ cause = Prim.cc in subst (λ (c : Cause). IsCauseIn file held c) same tt

-- what a file means, where it is known
known_meant : (held meant : Option (List ℕ)) → held ≡ meant → IfSome held (λ bytes. meant ≡ Some bytes)
known_meant None meant same = tt
known_meant (Some bytes) meant same = sym same

pub file_meant : (shape : Option FlatShape) (files : Option Files) (name : Option (List ℕ))
    → IsMeant (content files Dump name) (content (flat_files files) Dump (flat_opened true shape name))
file_meant (Some s) files name = known_meant (content (flat_files files) Dump name) (option_and_then flat_bytes (content files Dump name)) (flat_content files Dump name)
file_meant None None name = tt
file_meant None (Some files) name = tt

-- what is seen of the dump is what stands for its bytes
pub held_seen : (shape : Option PlainShape) (files : Option Files) (name : Option (List ℕ)) → IsSome (opened_by true shape name)
    → content (seen_files files) Dump (opened_by true shape name) ≡ option_and_then seen_bytes (content files Dump name)
held_seen (Some s) files name there = content_seen files Dump name
held_seen None files name there = let none : ⊥ = Prim.cc in absurd none
