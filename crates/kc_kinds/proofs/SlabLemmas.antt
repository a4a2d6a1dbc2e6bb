-- The fields of a slab cache, as the code keeps them.
use Rattle.std.proofs.Common.{◌≡◌, ◌≤◌, ℕ, Bool, true, false, Some, refl, ap}
use Rattle.std.specs.Prelude.{nat_le}
use Rattle.std.proofs.Math.Bridge.{le_prop}
use Rattle.std.proofs.lemmas.Bool.{and_from, and_parts, le-leb, leb-true}
use Rattle.kc_found.specs.declared.shapes.ListShape.{ListShape}
use Rattle.kc_kinds.specs.declared.slabs.CacheFields.{CacheFields}
use Rattle.kc_kinds.specs.declared.slabs.NodeFields.{NodeFields}
use Rattle.kc_kinds.specs.declared.slabs.SlabFields.{SlabFields}
use Rattle.kc_kinds.specs.Kernels.{Kernel}
use Rattle.kc_kinds.specs.Slabs.{fits, slub_if, slub_of, slub_with}

made_if : (kernel : Kernel) (list : ListShape) (cache : CacheFields) (node : NodeFields) (slab : SlabFields) (page : ℕ) (some : 1 ≤ page) (few : cache.nodes.count ≤ 65536)
    (fit : Bool) (is : fits page cache.nodes.count ≡ fit) → fit ≡ true → Some (slub_with kernel list cache node slab page some few) ≡ slub_if kernel list cache node slab page fit is
made_if kernel list cache node slab page some few false is e = absurd (let none : ⊥ = cc in none)
made_if kernel list cache node slab page some few true is e =
    let some_is : IsProp (1 ≤ page) = le_prop in
    let few_is : IsProp (cache.nodes.count ≤ 65536) = le_prop in
    let parts = and_parts (nat_le 1 page) (nat_le cache.nodes.count 65536) is in
    ap Some (λ i. slub_with kernel list cache node slab page (some_is some (leb-true 1 page parts.0) i) (few_is few (leb-true cache.nodes.count 65536 parts.1) i))

pub made_of : (kernel : Kernel) (list : ListShape) (cache : CacheFields) (node : NodeFields) (slab : SlabFields) (page : ℕ) (some : 1 ≤ page) (few : cache.nodes.count ≤ 65536)
    → Some (slub_with kernel list cache node slab page some few) ≡ slub_of kernel list cache node slab page
made_of kernel list cache node slab page some few =
    made_if kernel list cache node slab page some few (fits page cache.nodes.count) refl
    (and_from (nat_le 1 page) (nat_le cache.nodes.count 65536) (le-leb 1 page some) (le-leb cache.nodes.count 65536 few))
