-- What a kernel's types and symbols have.
use Rattle.std.specs.Prelude.{ℕ, nat_le, if◌then◌else◌, List, Option, Some, None, option_and_then, option_map, Result, Ok, Err}
use Rattle.kc_btf.specs.declared.types.ArrayOf.{ArrayOf}
use Rattle.kc_btf.specs.Btf.{Types}
use Rattle.kc_layout.specs.declared.fault.PathFault.{PathFault}
use Rattle.kc_layout.specs.Bare.{array_under}
use Rattle.kc_layout.specs.Ends.{ByteAt, located}
use Rattle.kc_layout.specs.Size.{size}
use Rattle.kc_syms.specs.declared.fault.SymFault.{SymFault}
use Rattle.kc_owner.specs.declared.kernel.Elements.{Elements}

-- the address of a symbol, where it has one alone
abbrev pub single : Result ℕ SymFault → Option ℕ
single (Ok address) = Some address
single (Err fault) = None

-- an array of 64 elements at most, at a byte of a struct
abbrev pub elements_of : Types → ℕ → ArrayOf → Option Elements
elements_of types byte array =
    if nat_le array.nelems 64 then option_map (λ bytes. record { byte = byte; count = array.nelems; size = bytes }) (size types array.ty)
    else None

-- a member of a struct that is one
abbrev pub elements_at : Types → Result ByteAt PathFault → Option Elements
elements_at types (Err fault) = None
elements_at types (Ok place) = option_and_then (elements_of types place.byte) (array_under types place.ty)

abbrev pub elements_in : Types → Option ℕ → List ℕ → Option Elements
elements_in types id name = option_and_then (λ id. elements_at types (located types id name)) id
