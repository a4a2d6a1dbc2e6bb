-- The free block that has a page. Source: the kernel's mm/page_alloc.c: a free block of an order has 2^order pages, and the number of its first page
-- is a multiple of that (`__find_buddy_pfn`); `__free_one_page`: its first page has the mark (`__SetPageBuddy`), and its order as `private`
-- (`set_buddy_order`). Pages of the processors' own lists (`free_unref_page`) are in none.
use Rattle.std.specs.Prelude.{ℕ, zero, suc, ◌*◌, ◌%◌, ◌^◌, Bool, false, ◌&&◌, nat_eq, if◌then◌else◌, Option, Some, None}
use Rattle.kc_memory.specs.Image.{Image}
use Rattle.kc_owner.specs.declared.object.page.Page.{Page}
use Rattle.kc_owner.specs.Area.Processors.{less}
use Rattle.kc_owner.specs.Known.{known}
use Rattle.kc_frame.specs.declared.block.FreeBlock.{FreeBlock}
use Rattle.kc_frame.specs.declared.shape.FrameShape.{FrameShape}

-- the descriptor of the first page of the block of an order that has a page
abbrev pub first_of : FrameShape → Page → ℕ → ℕ
first_of shape page order = less page.descriptor (shape.size * (page.number % 2 ^ order) % 2 ^ 64)

-- a number that was read is the mark, in 32 bits, and an order
abbrev pub has_mark : Option ℕ → Option ℕ → Bool
has_mark (Some mark) (Some maps) = nat_eq (maps % 2 ^ 32) mark
has_mark (Some mark) None = false
has_mark None maps = false

abbrev pub is_order : ℕ → Option ℕ → Bool
is_order order (Some private) = nat_eq private order
is_order order None = false

-- a free block of an order begins at a descriptor
abbrev pub begins : Image → FrameShape → ℕ → ℕ → Bool
begins image shape first order = has_mark shape.mark (known image first shape.maps) && is_order order (known image first shape.private)

-- the first of so many orders, from one on, of which a free block has the page
unfoldable pub block_from : Image → FrameShape → Page → ℕ → ℕ → Option FreeBlock
block_from image shape page zero order = None
block_from image shape page (suc left) order =
    if begins image shape (first_of shape page order) order then Some (record { order = order; page = page.number % 2 ^ order })
    else block_from image shape page left (suc order)

abbrev pub block_at : Image → FrameShape → Page → Option FreeBlock
block_at image shape page = block_from image shape page shape.orders 0
