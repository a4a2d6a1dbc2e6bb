-- The made physical memory, from address 0 on.
use Rattle.std.specs.Prelude.{ℕ, ◌+◌, ◌*◌, ◌-◌, List, [], ◌∷◌, ◌++◌, length, Option}
use Rattle.kc_gen.specs.declared.bytes.Field.{Field}
use Rattle.kc_gen.specs.declared.memory.Entries.{Entries}
use Rattle.kc_gen.specs.Bytes.{each, laid, padded, word_bytes}
use Rattle.kc_gen.specs.Array.{array_entry, nodes}
use Rattle.kc_gen.specs.Items.{items, knot_pointer, root}
use Rattle.kc_gen.specs.Places.{array_head, item, item_at, nodes_at, page_up, ring_head, tree_head}

-- one entry of a page table at a physical address; and many, by the first and what each is more than the one before
abbrev pub one : ℕ → ℕ → Entries
one at value = record { at = at; count = 1; first = value; step = 0 }

abbrev pub many : ℕ → ℕ → ℕ → ℕ → Entries
many at count first step = record { at = at; count = count; first = first; step = step }

abbrev pub entries_bytes : Entries → List ℕ
entries_bytes e = each e.count (λ i. word_bytes (e.first + e.step * i))

-- entries at their places, in rising order
abbrev pub with_entries : List Entries → List ℕ → List ℕ
with_entries [] bytes = bytes
with_entries (e ∷ es) bytes = with_entries es (padded e.at bytes ++ entries_bytes e)

-- The page tables: the kernel's image by 32 pages of 4 KiB, one page of page descriptors, and the direct map by 512 pages of 2 MiB.
unfoldable pub tables : List Entries
tables =
    one 0x1888 0x9003 ∷ one 0x1ea0 0x5003 ∷ one 0x1ff8 0x2003 ∷ one 0x2ff0 0x3003 ∷ one 0x3000 0x4003 ∷ many 0x4000 32 3 0x1000
    ∷ one 0x5000 0x6003 ∷ one 0x6000 0x7003 ∷ one 0x7000 0x8003 ∷ one 0x9000 0xa003 ∷ many 0xa000 512 0x83 0x200000 ∷ []

abbrev pub word_at : ℕ → ℕ → Field
word_at at value = record { at = at; width = 8; value = value }

-- the heads: the xarray's entry, the ring's `next` and `prev`, and the tree's root
abbrev pub heads : ℕ → List Field
heads n =
    word_at (array_head + 8) (array_entry n) ∷ word_at ring_head (item 0) ∷ word_at (ring_head + 8) (item (n - 1))
    ∷ word_at tree_head (knot_pointer (root 0 n)) ∷ []

-- page tables and heads
abbrev pub low_memory : ℕ → List ℕ
low_memory n = laid (heads n) (with_entries tables [])

-- items at their place, nodes at theirs, and zeros up to the end of the last page
abbrev pub with_items : ℕ → Option ℕ → List ℕ → List ℕ
with_items n hurt bytes = padded (item_at 0) bytes ++ items n hurt

abbrev pub with_nodes : ℕ → List ℕ → List ℕ
with_nodes n bytes = padded (nodes_at n) bytes ++ nodes n

abbrev pub to_page : List ℕ → List ℕ
to_page bytes = padded (page_up (length bytes)) bytes

abbrev pub memory : ℕ → Option ℕ → List ℕ
memory n hurt = to_page (with_nodes n (with_items n hurt (low_memory n)))
