-- What is told of free blocks is so.
use Rattle.std.proofs.Common.{◌≡◌, ℕ, zero, suc, ◌+◌, ◌%◌, ◌^◌, ◌<◌, Bool, true, false, if◌then◌else◌, Option, Some, None, refl, sym, ap, subst, ◌∙◌, arith}
use Rattle.kc_memory.specs.Image.{Image}
use Rattle.kc_owner.specs.declared.object.page.Page.{Page}
use Rattle.kc_frame.specs.declared.block.FreeBlock.{FreeBlock}
use Rattle.kc_frame.specs.declared.shape.FrameShape.{FrameShape}
use Rattle.kc_frame.specs.Blocks.{block_from}
use Rattle.kc_frame.specs.Laws.{BlocksStand, NoneMissed}
use Rattle.kc_frame.proofs.BlockLemmas.{begins_at, from_next, from_none}

module _ (shape : FrameShape) (page : Page) (i : Image) where
  -- a block of an order that has the page
  abbrev Holds : ℕ → FreeBlock → Type 0
  Holds orders b = (b.order < orders) × ((b.page ≡ page.number % 2 ^ b.order) × (begins_at shape page i b.order ≡ true))

  here : ℕ → FreeBlock
  here order = record { order = order; page = page.number % 2 ^ order }

  one_some : (left order : ℕ) (b : FreeBlock) (t : Bool) → begins_at shape page i order ≡ t
      → (block_from i shape page left (suc order) ≡ Some b → Holds (suc order + left) b)
      → (if t then Some (record { order = order; page = page.number % 2 ^ order }) else block_from i shape page left (suc order)) ≡ Some b → Holds (order + suc left) b
  one_some left order b true is rest some =
      let same : record { order = order; page = page.number % 2 ^ order } ≡ b = cc in
      subst (λ (b : FreeBlock). Holds (order + suc left) b) same (omega arith, (refl, is))
  one_some left order b false is rest some =
      let found = rest some in (omega (arith, found.0), found.1)

  some_from : (left order : ℕ) (b : FreeBlock) → block_from i shape page left order ≡ Some b → Holds (order + left) b
  some_from zero order b is = absurd (let none : ◌≡◌ {A = Option FreeBlock} None (Some b) = sym (from_none i shape page order) ∙ is in let no : ⊥ = cc in no)
  some_from (suc left) order b is =
      one_some left order b (begins_at shape page i order) refl (some_from left (suc order) b) (sym (from_next i shape page left order) ∙ is)

  one_none : (left order : ℕ) (t : Bool) → begins_at shape page i order ≡ t
      → (if t then Some (record { order = order; page = page.number % 2 ^ order }) else block_from i shape page left (suc order)) ≡ None
      → (begins_at shape page i order ≡ false) × (block_from i shape page left (suc order) ≡ None)
  one_none left order true is none = absurd (let no : ⊥ = cc in no)
  one_none left order false is none = (is, none)

  none_from : (left order : ℕ) → block_from i shape page left order ≡ None → (k : ℕ) → k < left → begins_at shape page i (order + k) ≡ false
  none_from zero order is k lt = absurd (omega (arith, lt))
  none_from (suc left) order is zero lt =
      let e : order + 0 ≡ order = omega arith in
      ap (begins_at shape page i) e ∙ (one_none left order (begins_at shape page i order) refl (sym (from_next i shape page left order) ∙ is)).0
  none_from (suc left) order is (suc k) lt =
      let e : order + suc k ≡ suc order + k = omega arith in
      ap (begins_at shape page i) e ∙ none_from left (suc order) (one_none left order (begins_at shape page i order) refl (sym (from_next i shape page left order) ∙ is)).1 k (omega (arith, lt))

pub blocks_stand : BlocksStand
blocks_stand i shape page b is =
    let found = some_from shape page i shape.orders 0 b is in
    record { begins = found.1.1; one_of = omega (arith, found.0); place = found.1.0 }

pub none_missed : NoneMissed
none_missed i shape page is order lt =
    let e : order ≡ 0 + order = omega arith in
    ap (begins_at shape page i) e ∙ none_from shape page i shape.orders 0 is order lt
