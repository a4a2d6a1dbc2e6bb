-- Where the structs have the words that lead to modules and their types, by the kernel's own types.
-- Source: include/linux/module.h, `struct module`; kernel/bpf/btf.c, `struct btf_module` and `struct btf`.
use Rattle.std.specs.Prelude.{ℕ, List, codes, ok_or, Result, Ok, Err}
use Rattle.kc_btf.specs.declared.stop.BtfFault.{BtfFault}
use Rattle.kc_btf.specs.Btf.{Types}
use Rattle.kc_kallsyms.specs.declared.fault.ModuleMember.{ModuleMember}
use Rattle.kc_kallsyms.specs.declared.fault.ModuleMember.TheVariants as members
use Rattle.kc_kallsyms.specs.declared.fault.TableFault.{TableFault}
use Rattle.kc_kallsyms.specs.declared.fault.TableFault.TheVariants.{S12, S14}
use Rattle.kc_kallsyms.specs.Reading.{◌>>=◌}
use Rattle.kc_modules.specs.declared.shape.ModuleFields.{ModuleFields}
use Rattle.kc_modules.specs.declared.shape.TypedShape.{TypedShape}
use Rattle.kc_modules.specs.Parts.{member, parts_in}

-- types, where they break no rule
abbrev pub sound : Result Types BtfFault → Result Types TableFault
sound (Ok types) = Ok types
sound (Err fault) = Err S12

-- the byte of a member that has to be there
abbrev pub needed : Types → ModuleMember → List ℕ → List ℕ → Result ℕ TableFault
needed types key name path = ok_or (member types name path) (S14 key)

-- of a module
unfoldable pub module_fields : Types → Result ModuleFields TableFault
module_fields types = do
  list ← needed types members.List (codes "module") (codes "list")
  name ← needed types members.Name (codes "module") (codes "name")
  parts ← ok_or (parts_in types) (S14 members.Memory)
  Ok (record { list = list; name = name; parts = parts })

-- of a module that has types
unfoldable pub typed_shape : Types → Result TypedShape TableFault
typed_shape types = do
  list ← needed types members.TypedList (codes "btf_module") (codes "list")
  owner ← needed types members.Module (codes "btf_module") (codes "module")
  name ← needed types members.Name (codes "module") (codes "name")
  btf ← needed types members.Types (codes "btf_module") (codes "btf")
  data_at ← needed types members.Data (codes "btf") (codes "data")
  size ← needed types members.Size (codes "btf") (codes "data_size")
  Ok (record { list = list; module_at = owner; name = name; btf = btf; data_at = data_at; size = size })
