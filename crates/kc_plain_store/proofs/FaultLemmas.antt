-- Why a page can't be had.
use Rattle.std.proofs.Common.{◌≡◌, ℕ, ◌+◌, ◌<◌, ◌≤◌, Bool, true, false, nat_lt, cond, List, length, Option, Some, None, IfSome, IsSome, Result, Ok, Err, refl, sym, ap, ◌∙◌, subst, arith}
use Rattle.std.proofs.lemmas.Bool.{cond-true, lt-ltb}
use Rattle.std.specs.Result.{result_err}
use Rattle.kc_outside.specs.Files.{HasLength}
use Rattle.kc_kdump.specs.declared.fault.KdumpFault.{KdumpFault}
use Rattle.kc_kdump.specs.declared.descriptor.Descriptor.{Descriptor}
use Rattle.kc_kdump.specs.Bytes.{part}
use Rattle.kc_kdump.specs.Dump.{descriptor_at}
use Rattle.kc_plain.specs.declared.unpacked.fault.PageFault.{PageFault}
use Rattle.kc_plain.specs.Unpack.Unpacked.{descriptor_fault, page_of, unless, unpacked}
use Rattle.kc_plain_store.specs.declared.plain_core.PlainCore.{PlainCore}
use Rattle.kc_plain_store.specs.declared.shape.PlainShape.{PlainShape}
use Rattle.kc_plain_store.specs.declared.stop.BadPage.{BadPage}
use Rattle.kc_plain_store.specs.declared.stop.ViewFault.{ViewFault}
use Rattle.kc_plain_store.specs.declared.stop.ViewFault.TheVariants.{Store, Refused, Page, NoMemory}
use Rattle.kc_plain_store.specs.Faults.{Container, IfBad, IsBadIn, container_of, core_container, fault_in, is_complete, is_complete_in, page_fault, shape_container}
use Rattle.kc_plain_store.specs.Seen.{learnt_size, sizes_by}

-- the fault of a page that is in the dump
in_dump : (bytes : List ℕ) (dump : Container) (number : ℕ) (fault : PageFault) → number < dump.pages → page_of bytes (descriptor_at dump.layout bytes number) ≡ Err fault → fault_in bytes number (Some dump) ≡ Some fault
in_dump bytes dump number fault here is =
    cond-true _ _ _ (lt-ltb number dump.pages here) ∙ ap result_err is

-- a descriptor that is at fault, or bytes that are
by_descriptor : (bytes : List ℕ) (d : Descriptor) (size : ℕ) (fault : PageFault) → size ≡ length bytes → descriptor_fault size d ≡ Some fault → page_of bytes d ≡ Err fault
unfolding page_of
by_descriptor bytes d size fault long is =
    ap (λ (n : ℕ). unless (descriptor_fault n d) (unpacked d.flags (part d.offset d.size bytes))) (sym long)
    ∙ ap (λ f. unless f (unpacked d.flags (part d.offset d.size bytes))) is

by_bytes : (bytes : List ℕ) (d : Descriptor) (size : ℕ) (fault : PageFault) → size ≡ length bytes → descriptor_fault size d ≡ None
    → unpacked d.flags (part d.offset d.size bytes) ≡ Err fault → page_of bytes d ≡ Err fault
unfolding page_of
by_bytes bytes d size fault long none is =
    ap (λ (n : ℕ). unless (descriptor_fault n d) (unpacked d.flags (part d.offset d.size bytes))) (sym long)
    ∙ ap (λ f. unless f (unpacked d.flags (part d.offset d.size bytes))) none
    ∙ is

pub bad_descriptor : (content : Option (List ℕ)) (core : PlainCore) (index size : ℕ) (d : Descriptor) (fault : PageFault)
    → IfSome content (λ bytes. d ≡ descriptor_at core.layout bytes index) → HasLength content size → descriptor_fault size d ≡ Some fault → index < core.pages
    → IfSome content (λ bytes. fault_in bytes index (Some (core_container core)) ≡ Some fault)
bad_descriptor None core index size d fault is long wrong here = tt
bad_descriptor (Some bytes) core index size d fault is long wrong here =
    in_dump bytes (core_container core) index fault here (ap (λ (e : Descriptor). page_of bytes e) (sym is) ∙ by_descriptor bytes d size fault long wrong)

bad_one : (content one : Option (List ℕ)) (core : PlainCore) (index size : ℕ) (d : Descriptor) (bad : BadPage) → one ≡ content
    → IfSome content (λ bytes. d ≡ descriptor_at core.layout bytes index) → HasLength content size → descriptor_fault size d ≡ None → index < core.pages → bad.number ≡ index
    → IfSome one (λ bytes. unpacked d.flags (part d.offset d.size bytes) ≡ Err bad.fault)
    → IfSome content (λ bytes. IsBadIn (Some (core_container core)) bytes bad)
bad_one None one core index size d bad same is long none here at wrong = tt
bad_one (Some bytes) one core index size d bad same is long none here at wrong =
    let now : unpacked d.flags (part d.offset d.size bytes) ≡ Err bad.fault = subst (λ (t : Option (List ℕ)). IfSome t (λ b. unpacked d.flags (part d.offset d.size b) ≡ Err bad.fault)) same wrong in
    ap (λ (n : ℕ). fault_in bytes n (Some (core_container core))) at
    ∙ in_dump bytes (core_container core) index bad.fault here (ap (λ (e : Descriptor). page_of bytes e) (sym is) ∙ by_bytes bytes d size bad.fault long none now)

pub bad_bytes : {A : Type 0} (r : Result A ViewFault) (content one : Option (List ℕ)) (core : PlainCore) (index size : ℕ) (d : Descriptor) → one ≡ content
    → IfSome content (λ bytes. d ≡ descriptor_at core.layout bytes index) → HasLength content size → descriptor_fault size d ≡ None → index < core.pages
    → IfBad r (λ bad. (bad.number ≡ index) × IfSome one (λ bytes. unpacked d.flags (part d.offset d.size bytes) ≡ Err bad.fault))
    → IfBad r (λ bad. IfSome content (λ bytes. IsBadIn (Some (core_container core)) bytes bad))
bad_bytes (Ok a) content one core index size d same is long none here wrong = tt
bad_bytes (Err Store) content one core index size d same is long none here wrong = tt
bad_bytes (Err (Refused fault)) content one core index size d same is long none here wrong = wrong
bad_bytes (Err (Page bad)) content one core index size d same is long none here wrong = bad_one content one core index size d bad same is long none here wrong.0 wrong.1
bad_bytes (Err NoMemory) content one core index size d same is long none here wrong = wrong

-- what a view keeps of a failed read
bad_kept_by : (A : Type 0) (s : PlainShape) (fault : ViewFault) (told : Option (List ℕ)) → IfBad {A = A} (Err fault) (λ bad. IfSome told (λ bytes. IsBadIn (shape_container s) bytes bad))
    → ((bytes : List ℕ) → told ≡ Some bytes → container_of bytes ≡ shape_container s)
    → (bad : BadPage) (bytes : List ℕ) → fault ≡ Page bad → told ≡ Some bytes → page_fault bytes bad.number ≡ Some bad.fault
bad_kept_by A s Store told is law bad bytes kept here = absurd (let none : ⊥ = cc in none)
bad_kept_by A s (Refused f) told is law bad bytes kept here = absurd is
bad_kept_by A s (Page wrong) told is law bad bytes kept here =
    let same : wrong ≡ bad = cc in
    let now : IfSome (Some bytes) (λ b. IsBadIn (shape_container s) b wrong) = subst (λ (t : Option (List ℕ)). IfSome t (λ b. IsBadIn (shape_container s) b wrong)) here is in
    ap (λ (dump : Option Container). fault_in bytes bad.number dump) (law bytes here)
    ∙ subst (λ (w : BadPage). IsBadIn (shape_container s) bytes w) same now
bad_kept_by A s NoMemory told is law bad bytes kept here = absurd is

pub bad_kept : (A : Type 0) (shape : Option PlainShape) (fault : ViewFault) (told : Option (List ℕ)) → IsSome shape
    → ((s : PlainShape) → shape ≡ Some s → IfBad {A = A} (Err fault) (λ bad. IfSome told (λ bytes. IsBadIn (shape_container s) bytes bad)))
    → ((s : PlainShape) (bytes : List ℕ) → shape ≡ Some s → told ≡ Some bytes → container_of bytes ≡ shape_container s)
    → (bad : BadPage) (bytes : List ℕ) → Some fault ≡ Some (Page bad) → told ≡ Some bytes → page_fault bytes bad.number ≡ Some bad.fault
bad_kept A None fault told there is law bad bytes kept here = absurd (let none : ⊥ = cc in none)
bad_kept A (Some s) fault told there is law bad bytes kept here = let same : fault ≡ Page bad = cc in bad_kept_by A s fault told (is s refl) (λ b t. law s b refl t) bad bytes same here

-- nor does a failed read refuse the dump
pub none_kept : (A : Type 0) (shape : Option PlainShape) (fault : ViewFault) (P : PlainShape → BadPage → Type 0) → IsSome shape → ((s : PlainShape) → shape ≡ Some s → IfBad {A = A} (Err fault) (P s))
    → (f : KdumpFault) → Some fault ≡ Some (Refused f) → ⊥
none_kept A None fault P there is f kept = let none : ⊥ = cc in none
none_kept A (Some s) Store P there is f kept = let none : ⊥ = cc in none
none_kept A (Some s) (Refused g) P there is f kept = is s refl
none_kept A (Some s) (Page bad) P there is f kept = let none : ⊥ = cc in none
none_kept A (Some s) NoMemory P there is f kept = is s refl

-- a slot whose size is learnt is shown
pub shape_there : (learnt : Bool) (shape : Option PlainShape) (size : Option ℕ) (b : Bool) → b ≡ true → IsSome (sizes_by b (learnt_size learnt shape) size) → IsSome shape
shape_there true (Some s) size true is known = refl
shape_there true None size true is known = absurd (let none : ⊥ = cc in none)
shape_there false shape size true is known = absurd (let none : ⊥ = cc in none)
shape_there learnt shape size false is known = absurd (let none : ⊥ = cc in none)

-- whether a file that is shown lacks no page
pub said_whole : (shape : Option PlainShape) (told : Option (List ℕ)) (result : Bool) (s : PlainShape) → shape ≡ Some s → result ≡ is_complete_in (shape_container s)
    → ((t : PlainShape) (bytes : List ℕ) → shape ≡ Some t → told ≡ Some bytes → container_of bytes ≡ shape_container t) → IfSome told (λ bytes. result ≡ is_complete bytes)
said_whole shape None result s shown is law = tt
said_whole shape (Some bytes) result s shown is law = is ∙ sym (ap is_complete_in (law s bytes shown refl))

-- what was put down to the store below
pub still_failed : (old new : Option ViewFault) (before after : ℕ) → new ≡ old → before ≤ after → (old ≡ Some Store → 0 < before) → new ≡ Some Store → 0 < after
still_failed old new before after same more law is = omega (arith, law (sym same ∙ is), more)

-- a failed read wants no memory
pub none_wanted : (A : Type 0) (shape : Option PlainShape) (fault : ViewFault) (P : PlainShape → BadPage → Type 0) → IsSome shape → ((s : PlainShape) → shape ≡ Some s → IfBad {A = A} (Err fault) (P s))
    → Some fault ≡ Some NoMemory → ⊥
none_wanted A None fault P there is kept = let none : ⊥ = cc in none
none_wanted A (Some s) Store P there is kept = let none : ⊥ = cc in none
none_wanted A (Some s) (Refused g) P there is kept = is s refl
none_wanted A (Some s) (Page bad) P there is kept = let none : ⊥ = cc in none
none_wanted A (Some s) NoMemory P there is kept = is s refl
