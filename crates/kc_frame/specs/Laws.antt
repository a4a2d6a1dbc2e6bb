-- What is told of free blocks.
use Rattle.std.specs.Prelude.{◌≡◌, ℕ, ◌<◌, ◌%◌, ◌^◌, true, false, Some, None}
use Rattle.kc_memory.specs.Image.{Image}
use Rattle.kc_owner.specs.declared.object.page.Page.{Page}
use Rattle.kc_frame.specs.declared.block.FreeBlock.{FreeBlock}
use Rattle.kc_frame.specs.declared.shape.FrameShape.{FrameShape}
use Rattle.kc_frame.specs.Blocks.{begins, block_at, first_of}

-- a free block of an order begins at the first page of those that could be the page's block
abbrev pub Begins : Image → FrameShape → Page → ℕ → Type 0
Begins image shape page order = begins image shape (first_of shape page order) order ≡ true

-- the block that is told is free and has the page, and none of a lower order is
pub record IsIn (image : Image) (shape : FrameShape) (page : Page) (b : FreeBlock) : Type 0 where
  pub begins : Begins image shape page b.order
  pub one_of : b.order < shape.orders
  pub place : b.page ≡ page.number % 2 ^ b.order

abbrev pub BlocksStand : Type 0
BlocksStand = (image : Image) (shape : FrameShape) (page : Page) (b : FreeBlock) → block_at image shape page ≡ Some b → IsIn image shape page b

-- where none is told, none is free that has the page
abbrev pub NoneBegins : Image → FrameShape → Page → Type 0
NoneBegins image shape page = (order : ℕ) → order < shape.orders → begins image shape (first_of shape page order) order ≡ false

abbrev pub NoneMissed : Type 0
NoneMissed = (image : Image) (shape : FrameShape) (page : Page) → block_at image shape page ≡ None → NoneBegins image shape page
