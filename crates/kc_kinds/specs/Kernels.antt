-- What a kernel is known by.
use Rattle.std.specs.Prelude.{ℕ, List, Bool, true, false, ◌&&◌, codes, Result, Ok, Err, if◌then◌else◌}
use Rattle.kc_btf.specs.Btf.{Types}
use Rattle.kc_syms.specs.declared.fault.SymFault.{SymFault}
use Rattle.kc_syms.specs.declared.fault.SymFault.TheVariants.{S2, S3}
use Rattle.kc_syms.specs.Addresses.{common_of}
use Rattle.kc_view.specs.declared.slub.Base.{Base}
use Rattle.kc_syms.specs.Symbols.{symbol}
use Rattle.kc_view.specs.declared.slub.Base.TheVariants.{At, Is}
use Rattle.kc_kinds.specs.declared.known.Known.{Known}

-- a kernel: its types, the addresses that its map lists for a name, how far KASLR moved it, and whether its page tables
-- have five levels
pub record Kernel : Type 0 where
  pub types : Types
  pub symbols : List ℕ → List ℕ
  pub kaslr : ℕ
  pub five : Bool

abbrev pub kernel : Known → Kernel
kernel known = record { types = known.btf.now; symbols = symbol known.symbols.now; kaslr = known.kaslr; five = known.five }

-- the address of a symbol
abbrev pub address_in : Kernel → List ℕ → Result ℕ SymFault
address_in kernel name = common_of kernel.kaslr (kernel.symbols name)

-- it doesn't have two
abbrev pub is_single : Result ℕ SymFault → Bool
is_single (Ok address) = true
is_single (Err S2) = true
is_single (Err (S3 first other)) = false

-- a number that stands at a symbol, or is this one where there is no such symbol
abbrev pub base_at : Result ℕ SymFault → ℕ → Base
base_at (Ok address) usual = At address
base_at (Err fault) usual = Is usual

-- Where the array of page descriptors begins, and where physical memory is mapped: where the kernel doesn't keep them in
-- a variable, they follow from the levels of its page tables. Source: the kernel's Documentation/arch/x86/x86_64/mm.rst.
abbrev pub vmemmap_in : Kernel → Base
vmemmap_in kernel = base_at (address_in kernel (codes "vmemmap_base")) (if kernel.five then 0xffd4000000000000 else 0xffffea0000000000)

abbrev pub direct_in : Kernel → Base
direct_in kernel = base_at (address_in kernel (codes "page_offset_base")) (if kernel.five then 0xff11000000000000 else 0xffff888000000000)

-- how many memory nodes a kernel has, which has an array for so many
abbrev pub node_ids_in : Kernel → ℕ → Base
node_ids_in kernel nodes = base_at (address_in kernel (codes "nr_node_ids")) nodes

-- each of these symbols has one address or none
abbrev pub are_single : Kernel → Bool
are_single kernel =
    is_single (address_in kernel (codes "vmemmap_base"))
    && (is_single (address_in kernel (codes "page_offset_base")) && is_single (address_in kernel (codes "nr_node_ids")))
