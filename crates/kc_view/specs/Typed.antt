-- A type at a virtual address.
use Rattle.std.specs.Prelude.{ℕ, ◌+◌, ◌%◌, ◌^◌, nat_eq, if◌then◌else◌, Option, Some, None}
use Rattle.kc_btf.specs.Btf.{Types}
use Rattle.kc_layout.specs.declared.place.Located.{Located}

-- a type, by its number among these, at an address
pub record Typed : Type 0 where
  pub types : Types
  pub ty : ℕ
  pub at : ℕ

-- so many bytes on: addresses wrap at 2^64
abbrev pub bytes_on : ℕ → ℕ → ℕ
bytes_on at bytes = (at + bytes) % 2 ^ 64

-- what lies so many bytes on from an address
abbrev pub laid : Types → ℕ → ℕ → ℕ → Typed
laid types at bytes ty = record { types = types; ty = ty; at = bytes_on at bytes }

-- a member that no pointer leads to
abbrev pub part_of : Typed → Located → Option Typed
part_of view to = if nat_eq to.hops.count 0 then Some (laid view.types view.at to.byte to.ty) else None
