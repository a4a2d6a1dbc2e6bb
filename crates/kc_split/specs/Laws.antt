-- That the types of a kernel stay what they are when a module's are joined to them, and that the module's go on from
-- them.
use Rattle.std.specs.Prelude.{◌≡◌, ◌<◌, ◌≤◌, IsTrue, ℕ, suc, ◌+◌, List, length, slice_get}
use Rattle.kc_btf.specs.Btf.{Types}
use Rattle.kc_btf.specs.Header.{string_section, are_strings}
use Rattle.kc_btf.specs.Readers.{name_at, record_numbered}
use Rattle.kc_btf.specs.Records.{Record}
use Rattle.kc_split.specs.Join.{with_module}

-- a type number and a name of the kernel mean what they did; the number behind the last of the kernel's is that of
-- the first record of the module, and the offset behind the kernel's strings that of the module's first byte
pub record GoOnFrom (base : Types) (bytes : List ℕ) (records : List Record) : Type 0 where
  pub ty : (id : ℕ) → id ≤ length base.records → record_numbered (with_module base bytes records) id ≡ record_numbered base id
  pub more_ty : (i : ℕ) → record_numbered (with_module base bytes records) (length base.records + suc i) ≡ slice_get records i
  pub name : (off : ℕ) → off < length base.strings → name_at (with_module base bytes records).strings off ≡ name_at base.strings off
  pub more_name : (off : ℕ) → name_at (with_module base bytes records).strings (length base.strings + off) ≡ name_at (string_section bytes) off

abbrev pub GoOn : Type 0
GoOn = (base : Types) (bytes : List ℕ) (records : List Record) → IsTrue (are_strings base.strings) → GoOnFrom base bytes records
