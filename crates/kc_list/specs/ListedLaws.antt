-- What the tests of lists say of finite rings and hash chains.
use Rattle.std.specs.Prelude.{◌≡◌, ℕ, List, true}
use Rattle.kc_memory.specs.Image.{Image}
use Rattle.kc_memory.specs.Translation.{vword}
use Rattle.kc_found.specs.declared.shapes.ListShape.{ListShape}
use Rattle.kc_found.specs.declared.shapes.HShape.{HShape}
use Rattle.kc_found.specs.FiniteLists.{Ring, HChain}
use Rattle.kc_list.specs.Listed.{is_ring, is_hash_chain}

-- the test is true of a ring of the definition, and of no other list
abbrev pub RingsAreTested : Type 0
RingsAreTested =
    (image : Image) (shape : ListShape) (head : ℕ) (ns : List ℕ)
    → (Ring (vword image) shape head ns → is_ring (vword image) shape head ns ≡ true)
    × (is_ring (vword image) shape head ns ≡ true → Ring (vword image) shape head ns)

-- and so with hash chains
abbrev pub HashChainsAreTested : Type 0
HashChainsAreTested =
    (image : Image) (shape : HShape) (head : ℕ) (ns : List ℕ)
    → (HChain (vword image) shape head ns → is_hash_chain (vword image) shape head ns ≡ true)
    × (is_hash_chain (vword image) shape head ns ≡ true → HChain (vword image) shape head ns)
