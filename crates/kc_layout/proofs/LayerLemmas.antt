-- Types under modifiers and arrays, layer by layer.
use Rattle.std.proofs.Common.{◌≡◌, ℕ, zero, suc, ◌-◌, ◌*◌, ◌<◌, Some, None, option_and_then, refl, arith}
use Rattle.kc_btf.specs.declared.types.ArrayOf.{ArrayOf}
use Rattle.kc_btf.specs.Btf.{Types}
use Rattle.kc_layout.specs.declared.size.Extent.TheVariants.{Bytes, Elements, Target, Unknown}
use Rattle.kc_layout.specs.Bare.{modified, under}
use Rattle.kc_layout.specs.Size.{extent, size_within, if_counted}

-- a type that is no modifier
pub under-here : (most : ℕ) (types : Types) (id : ℕ) → modified types id ≡ None → under most types id ≡ Some id
unfolding under
under-here zero types id is = rw is refl
under-here (suc most) types id is = rw is refl

-- one modifier too many
pub under-last : (most : ℕ) (types : Types) (id target : ℕ) → most ≡ 0 → modified types id ≡ Some target → under most types id ≡ None
unfolding under
under-last zero types id target last is = rw is refl
under-last (suc most) types id target last is = absurd (omega arith)

-- one modifier that is followed
pub under-next : (most : ℕ) (types : Types) (id target : ℕ) → 0 < most → modified types id ≡ Some target → under most types id ≡ under (most - 1) types target
unfolding under
under-next zero types id target more is = absurd (omega arith)
under-next (suc most) types id target more is =
    let left : suc most - 1 ≡ most = omega arith in
    rw (is, left) refl

-- a size that is known
pub size-bytes : (most : ℕ) (types : Types) (id size : ℕ) → extent types id ≡ Bytes size → size_within most types id ≡ Some size
unfolding size_within
size-bytes zero types id size is = rw is refl
size-bytes (suc most) types id size is = rw is refl

pub size-unknown : (most : ℕ) (types : Types) (id : ℕ) → extent types id ≡ Unknown → size_within most types id ≡ None
unfolding size_within
size-unknown zero types id is = rw is refl
size-unknown (suc most) types id is = rw is refl

-- one layer too many
pub size-last_target : (most : ℕ) (types : Types) (id target : ℕ) → most ≡ 0 → extent types id ≡ Target target → size_within most types id ≡ None
unfolding size_within
size-last_target zero types id target last is = rw is refl
size-last_target (suc most) types id target last is = absurd (omega arith)

pub size-last_elements : (most : ℕ) (types : Types) (id : ℕ) (array : ArrayOf) → most ≡ 0 → extent types id ≡ Elements array → size_within most types id ≡ None
unfolding size_within
size-last_elements zero types id array last is = rw is refl
size-last_elements (suc most) types id array last is = absurd (omega arith)

-- one layer
pub size-target : (most : ℕ) (types : Types) (id target : ℕ) → 0 < most → extent types id ≡ Target target → size_within most types id ≡ size_within (most - 1) types target
unfolding size_within
size-target zero types id target more is = absurd (omega arith)
size-target (suc most) types id target more is =
    let left : suc most - 1 ≡ most = omega arith in
    rw (is, left) refl

pub size-elements : (most : ℕ) (types : Types) (id : ℕ) (array : ArrayOf) → 0 < most → extent types id ≡ Elements array →
    size_within most types id ≡ option_and_then (λ size. if_counted (array.nelems * size)) (size_within (most - 1) types array.ty)
unfolding size_within
size-elements zero types id array more is = absurd (omega arith)
size-elements (suc most) types id array more is =
    let left : suc most - 1 ≡ most = omega arith in
    rw (is, left) refl
