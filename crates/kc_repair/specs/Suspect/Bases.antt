-- The words by which a kernel finds its memory, and a slab cache its slabs. Source: the kernel's arch/x86/include/asm/page_64_types.h, `page_offset_base` and
-- `__PAGE_OFFSET_BASE_L4`, `.._L5`; pgtable_64_types.h, `vmemmap_base` and `__VMEMMAP_BASE_L4`, `.._L5`.
use Rattle.std.specs.Prelude.{ℕ, List, [], ◌∷◌, ◌++◌}
use Rattle.kc_found.specs.Nodes.{at_offset}
use Rattle.kc_view.specs.declared.slub.Base.{Base}
use Rattle.kc_view.specs.declared.slub.Base.TheVariants.{At, Is}
use Rattle.kc_kinds.specs.declared.kind.Kind.{Kind}
use Rattle.kc_kinds.specs.declared.kind.Kind.TheVariants.{Slub}
use Rattle.kc_repair.specs.declared.suspect.change.Change.{Change}
use Rattle.kc_repair.specs.Suspect.Changes.{each, each_count, to}

-- such a word with any bit changed, or with what it holds without KASLR, with four and with five levels
abbrev pub base_changes : Base → ℕ → ℕ → List Change
base_changes (Is n) four five = []
base_changes (At a) four five = each a ∷ to a four ∷ to a five ∷ []

-- how many memory nodes there are, at least one: the word of `nr_node_ids`, of 32 bits, with any bit changed. Source: mm/page_alloc.c, `setup_nr_node_ids`
abbrev pub count_changes : Base → List Change
count_changes (Is n) = []
count_changes (At a) = each_count a ∷ []

-- of a cache: where page descriptors begin, where physical memory does, the number of memory nodes, and the cache's pointer to the first of them
abbrev pub bases_of : Kind → ℕ → List Change
bases_of (Slub s) cache =
    base_changes s.vmemmap 0xffffea0000000000 0xffd4000000000000 ++ base_changes s.direct 0xffff888000000000 0xff11000000000000
    ++ count_changes s.node_ids ++ each (at_offset cache s.node) ∷ []
bases_of _ cache = []
