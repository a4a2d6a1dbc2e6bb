-- Where a list of the kernel's modules begins, and the types by which its nodes are read.
-- Source: kernel/module/main.c, `modules`; kernel/bpf/btf.c, `btf_modules`; include/linux/module.h, `struct module`; kernel/bpf/btf.c,
-- `struct btf_module` and `struct btf`.
use Rattle.std.specs.Prelude.{ℕ, List, codes, Option, Result, Ok}
use Rattle.kc_memory.specs.Image.{Image}
use Rattle.kc_kallsyms.specs.declared.fault.ModuleList.{ModuleList}
use Rattle.kc_kallsyms.specs.declared.fault.ModuleList.TheVariants.{Loaded, Typed}
use Rattle.kc_kallsyms.specs.declared.fault.ModuleMember.{ModuleMember}
use Rattle.kc_kallsyms.specs.declared.fault.ModuleMember.TheVariants as members
use Rattle.kc_kallsyms.specs.declared.fault.TableFault.TheVariants.{S13}
use Rattle.kc_kallsyms.specs.declared.frame.RowFrame.{RowFrame}
use Rattle.kc_kallsyms.specs.declared.places.Places.{Places}
use Rattle.kc_kallsyms.specs.Addresses.{offset_of}
use Rattle.kc_kallsyms.specs.Map.{Kernel, kernel_at}
use Rattle.kc_kallsyms.specs.Reading.{◌>>=◌, Why, wanted}
use Rattle.kc_kallsyms.specs.Types.{address_by, types_between}

-- the symbol of a list's head
abbrev pub list_key : ModuleList → List ℕ
list_key Loaded = codes "modules"
list_key Typed = codes "btf_modules"

-- a member, after the name of its struct
abbrev pub member_key : ModuleMember → List ℕ
member_key members.List = codes "module.list"
member_key members.Name = codes "module.name"
member_key members.Memory = codes "module.mem"
member_key members.TypedList = codes "btf_module.list"
member_key members.Module = codes "btf_module.module"
member_key members.Types = codes "btf_module.btf"
member_key members.Data = codes "btf.data"
member_key members.Size = codes "btf.data_size"

-- the types, and the address of a list's head
pub record ListStart : Type 0 where
  pub types : List ℕ
  pub head : ℕ

-- by the offsets of the symbols at the types' ends and of the head
unfoldable pub start_between : Image → RowFrame → ModuleList → Option ℕ → Option ℕ → Option ℕ → Result ListStart Why
start_between image frame list first last at = do
  types ← types_between image frame first last
  head ← wanted (S13 list) (address_by frame at)
  Ok (record { types = types; head = head })

abbrev pub start_of : Image → ModuleList → Kernel → Result ListStart Why
start_of image list k =
    start_between image k.frame list (offset_of (codes "__start_BTF") k.symbols) (offset_of (codes "__stop_BTF") k.symbols) (offset_of (list_key list) k.symbols)

unfoldable pub start_at : Image → ℕ → Places → ModuleList → Result ListStart Why
start_at image kaslr places list = kernel_at image kaslr places >>= start_of image list
