-- Where things stand in the made memory.
use Rattle.std.specs.Prelude.{ℕ, ◌+◌, ◌*◌, ◌/◌}

-- the virtual addresses that lead to a physical one: by the kernel's image, and by the direct map
abbrev pub image : ℕ → ℕ
image pa = 0xffffffff80000000 + pa

abbrev pub direct : ℕ → ℕ
direct pa = 0xffff888000000000 + pa

-- a place rounded up to a page of 4096 bytes
abbrev pub page_up : ℕ → ℕ
page_up at = (at + 4095) / 4096 * 4096

-- the heads of the xarray `my_xa`, of the ring `my_ring` and of the tree `my_rb`, by their physical addresses
abbrev pub array_head : ℕ
array_head = 0xb110

abbrev pub ring_head : ℕ
ring_head = 0xb120

abbrev pub tree_head : ℕ
tree_head = 0xb130

-- item k, of 64 bytes: its physical address, its own, and that of its node of the tree
abbrev pub item_at : ℕ → ℕ
item_at k = 0x100000 + 64 * k

abbrev pub item : ℕ → ℕ
item k = direct (item_at k)

abbrev pub tree_node : ℕ → ℕ
tree_node k = item k + 40

-- node j of the xarray of n items, 160 bytes after the node before it; the nodes begin at the page after the items
abbrev pub nodes_at : ℕ → ℕ
nodes_at n = page_up (item_at n)

abbrev pub array_node : ℕ → ℕ → ℕ
array_node n j = direct (nodes_at n + 160 * j)
