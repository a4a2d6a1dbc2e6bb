-- Why a compressed dump, or a page of it, can't be had, by the bytes of the file.
use Rattle.std.specs.Prelude.{◌≡◌, ℕ, nat_lt, Bool, true, List, Option, Some, None, Result, Ok, Err, ⊤, if◌then◌else◌}
use Rattle.std.specs.Result.{result_err}
use Rattle.kc_kdump.specs.declared.fault.KdumpFault.{KdumpFault}
use Rattle.kc_kdump.specs.declared.layout.Layout.{Layout}
use Rattle.kc_kdump.specs.Dump.{Dump, descriptor_at, dump_of}
use Rattle.kc_kdump.specs.Header.{is_kdump}
use Rattle.kc_kdump.specs.Runs.{page_count}
use Rattle.kc_plain.specs.declared.unpacked.fault.PageFault.{PageFault}
use Rattle.kc_plain.specs.Unpack.Unpacked.{page_of}
use Rattle.kc_plain_store.specs.declared.plain_core.PlainCore.{PlainCore}
use Rattle.kc_plain_store.specs.declared.shape.PlainShape.{PlainShape}
use Rattle.kc_plain_store.specs.declared.shape.PlainShape.TheVariants.{Whole, Plain}
use Rattle.kc_plain_store.specs.declared.stop.BadPage.{BadPage}
use Rattle.kc_plain_store.specs.declared.stop.ViewFault.{ViewFault}
use Rattle.kc_plain_store.specs.declared.stop.ViewFault.TheVariants as as_fault

-- where the parts of a compressed dump are, how many pages it has, and whether those are all that its bitmaps speak of
pub record Container : Type 0 where
  pub layout : Layout
  pub pages : ℕ
  pub is_whole : Bool

abbrev pub container_in : Result Dump KdumpFault → Option Container
container_in (Ok dump) = Some (record { layout = dump.layout; pages = page_count dump.runs; is_whole = dump.is_whole })
container_in (Err fault) = None

-- that of a file: none where it is no compressed dump, or is refused
unfoldable pub container_of : List ℕ → Option Container
container_of bytes = if is_kdump bytes then container_in (dump_of bytes) else None

-- why a compressed dump is refused; another file never is
unfoldable pub refusal : List ℕ → Option KdumpFault
refusal bytes = if is_kdump bytes then result_err (dump_of bytes) else None

-- why a page can't be had, by its number among those in the dump
abbrev pub fault_in : List ℕ → ℕ → Option Container → Option PageFault
fault_in bytes number None = None
fault_in bytes number (Some dump) = if nat_lt number dump.pages then result_err (page_of bytes (descriptor_at dump.layout bytes number)) else None

abbrev pub page_fault : List ℕ → ℕ → Option PageFault
page_fault bytes number = fault_in bytes number (container_of bytes)

-- whether a file lacks no page at its end: only an incomplete dump does
abbrev pub is_complete_in : Option Container → Bool
is_complete_in None = true
is_complete_in (Some dump) = dump.is_whole

abbrev pub is_complete : List ℕ → Bool
is_complete bytes = is_complete_in (container_of bytes)

-- the container that a view knows
abbrev pub core_container : PlainCore → Container
core_container core = record { layout = core.layout; pages = core.pages; is_whole = core.is_whole }

abbrev pub shape_container : PlainShape → Option Container
shape_container (Whole size) = None
shape_container (Plain core) = Some (core_container core)

-- a page that can't be had is reported as what it is
abbrev pub IsBadIn : Option Container → List ℕ → BadPage → Type 0
IsBadIn dump bytes bad = fault_in bytes bad.number dump ≡ Some bad.fault

-- what is said of the page that a read reports; it reports no other fault than that or a failure of the store
abbrev pub IfBad : {A : Type 0} → Result A ViewFault → (BadPage → Type 0) → Type 0
IfBad (Ok a) P = ⊤
IfBad (Err as_fault.Store) P = ⊤
IfBad (Err (as_fault.Refused fault)) P = ⊥
IfBad (Err (as_fault.Page bad)) P = P bad
IfBad (Err as_fault.NoMemory) P = ⊥

-- what is said of the fault of a dump that an opening reports; it reports no page
abbrev pub IfRefused : {A : Type 0} → Result A ViewFault → (KdumpFault → Type 0) → Type 0
IfRefused (Ok a) P = ⊤
IfRefused (Err as_fault.Store) P = ⊤
IfRefused (Err (as_fault.Refused fault)) P = P fault
IfRefused (Err (as_fault.Page bad)) P = ⊥
IfRefused (Err as_fault.NoMemory) P = ⊤
