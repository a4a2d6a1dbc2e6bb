-- The orders so far, and the next one; and what is told of a block.
use Rattle.std.proofs.Common.{◌≡◌, ℕ, suc, ◌+◌, ◌-◌, ◌%◌, ◌^◌, ◌<◌, ◌≤◌, Bool, true, false, if◌then◌else◌, Option, Some, None, refl, sym, ap, ◌∙◌, add-one, arith}
use Rattle.std.specs.Prelude.{IfSome, Ok}
use Rattle.kc_memory.specs.Image.{Image}
use Rattle.kc_found.specs.Walks.{WalksAs}
use Rattle.kc_owner.specs.declared.object.page.Page.{Page}
use Rattle.kc_frame.specs.declared.block.FreeBlock.{FreeBlock}
use Rattle.kc_frame.specs.declared.shape.FrameShape.{FrameShape}
use Rattle.kc_frame.specs.Blocks.{begins, block_at, block_from, first_of}

pub from_next : (i : Image) (shape : FrameShape) (page : Page) (left order : ℕ) → block_from i shape page (suc left) order
    ≡ (if begins i shape (first_of shape page order) order then Some (record { order = order; page = page.number % 2 ^ order }) else block_from i shape page left (suc order))
unfolding block_from
from_next i shape page left order = refl

pub from_none : (i : Image) (shape : FrameShape) (page : Page) (order : ℕ) → block_from i shape page 0 order ≡ None
unfolding block_from
from_none i shape page order = refl

module _ (shape : FrameShape) (page : Page) where
  abbrev pub begins_at : Image → ℕ → Bool
  begins_at i order = begins i shape (first_of shape page order) order

  abbrev pub OfOrders : Option Image → ℕ → Type 0
  OfOrders image order = IfSome image (λ i. block_from i shape page (shape.orders - order) order ≡ block_at i shape page)

  pub orders_begin : (image : Option Image) → OfOrders image 0
  orders_begin None = tt
  orders_begin (Some i) = let e : shape.orders - 0 ≡ shape.orders = omega arith in ap (λ (n : ℕ). block_from i shape page n 0) e

  abbrev by_test : Image → ℕ → Bool → Option FreeBlock
  by_test i order b = if b then Some (record { order = order; page = page.number % 2 ^ order }) else block_from i shape page (shape.orders - (order + 1)) (order + 1)

  there : (i : Image) (order : ℕ) → order < shape.orders → block_from i shape page (shape.orders - order) order ≡ by_test i order (begins_at i order)
  there i order more =
      let e : shape.orders - order ≡ suc (shape.orders - (order + 1)) = omega (arith, more) in
      ap (λ (n : ℕ). block_from i shape page n order) e ∙ from_next i shape page (shape.orders - (order + 1)) order
      ∙ ap (λ (n : ℕ). if begins_at i order then Some (record { order = order; page = page.number % 2 ^ order }) else block_from i shape page (shape.orders - (order + 1)) n) (sym (add-one order))

  pub orders_next : (image : Option Image) (order : ℕ) → order < shape.orders → WalksAs {A = Bool} {B = Bool} (λ b. b) (λ i. Ok (begins_at i order)) image (Ok false)
      → OfOrders image order → OfOrders image (order + 1)
  orders_next None order more none far = tt
  orders_next (Some i) order more none far =
      let same : begins_at i order ≡ false = cc in
      sym (ap (by_test i order) same) ∙ sym (there i order more) ∙ far

  pub orders_found : (image : Option Image) (order : ℕ) → order < shape.orders → WalksAs {A = Bool} {B = Bool} (λ b. b) (λ i. Ok (begins_at i order)) image (Ok true)
      → OfOrders image order → WalksAs {A = Option FreeBlock} {B = Option FreeBlock} (λ b. b) (λ i. Ok (block_at i shape page)) image (Ok (Some (record { order = order; page = page.number % 2 ^ order })))
  orders_found None order more some far = tt
  orders_found (Some i) order more some far =
      let same : begins_at i order ≡ true = cc in
      ap (λ (b : Option FreeBlock). Ok b) (sym far ∙ there i order more ∙ ap (by_test i order) same)

  pub orders_done : (image : Option Image) (order : ℕ) → shape.orders ≤ order → OfOrders image order
      → WalksAs {A = Option FreeBlock} {B = Option FreeBlock} (λ b. b) (λ i. Ok (block_at i shape page)) image (Ok None)
  orders_done None order all far = tt
  orders_done (Some i) order all far =
      let e : shape.orders - order ≡ 0 = omega (arith, all) in
      ap (λ (b : Option FreeBlock). Ok b) (sym far ∙ ap (λ (n : ℕ). block_from i shape page n order) e ∙ from_none i shape page order)
