-- What is looked for in a dump.
use Rattle.std.specs.Prelude.{◌≡◌, ⊤, ℕ, Bool, true, List, [], map, Option, Some, None, Result, Ok, Err}
use Rattle.kc_memory.specs.Image.{Image}
use Rattle.kc_found.specs.Violations.{Violation}
use Rattle.kc_owner.specs.declared.object.keys.CacheKey.{CacheKey}
use Rattle.kc_owner.specs.declared.object.keys.FreeKeys.{FreeKeys}
use Rattle.kc_owner.specs.declared.object.shape.ObjectShape.{ObjectShape}
use Rattle.kc_owner.specs.Object.Keys.{free_keys}
use Rattle.kc_sight.specs.Refs.Writings.{Sought}

-- what free pointers are encoded with; nothing is told where the kernel lacks what that asks for
abbrev pub keys_of : Image → Option ObjectShape → Option (Result FreeKeys Violation)
keys_of image None = None
keys_of image (Some shape) = Some (free_keys image shape)

abbrev pub keys_in : Option (Result FreeKeys Violation) → List CacheKey
keys_in None = []
keys_in (Some (Ok k)) = k.keys
keys_in (Some (Err v)) = []

-- where the direct map begins, where free pointers are told
abbrev pub direct_in : Option (Result FreeKeys Violation) → ℕ
direct_in None = 0
direct_in (Some (Ok k)) = k.direct
direct_in (Some (Err v)) = 0

-- what is looked for: a value, as it is and as an encoded free pointer
abbrev pub sought_by : ℕ → Option (Result FreeKeys Violation) → Sought
sought_by value told = record { value = value; direct = direct_in told; randoms = map (λ (k : CacheKey). k.random) (keys_in told) }

-- a dump that is told is the same after it was asked, and its segments lie in it still
abbrev pub IsThere : Bool → Option (List ℕ) → Option (List ℕ) → Type 0
IsThere same None new = ⊤
IsThere same (Some bytes) new = (same ≡ true) × (new ≡ Some bytes)
