-- What the calls on paths answer: the byte or the bits that a path leads to.
use Rattle.std.specs.Prelude.{ℕ, ◌+◌, ◌*◌, ◌^◌, Bool, false, List, Option, Some, None, Result, Ok, Err, option_map, option_and_then, ◌==◌, ◌&&◌, nat_lt, nat_le, if◌then◌else◌}
use Rattle.std.specs.Option.{ok_or}
use Rattle.kc_btf.specs.declared.kind.Kind.{Kind}
use Rattle.kc_btf.specs.declared.kind.Kind.TheVariants.{Int, Ptr, Enum, Enum64}
use Rattle.kc_btf.specs.declared.types.IntOf.{IntOf}
use Rattle.kc_btf.specs.Btf.{Types}
use Rattle.kc_btf.specs.Records.{Record}
use Rattle.kc_btf.specs.Readers.{record_numbered, int_of}
use Rattle.kc_layout.specs.declared.fault.QRule.{QRule}
use Rattle.kc_layout.specs.declared.fault.QRule.TheVariants.{Q5, Q6}
use Rattle.kc_layout.specs.declared.fault.PathFault.{PathFault}
use Rattle.kc_layout.specs.declared.place.Number.{Number}
use Rattle.kc_layout.specs.declared.place.Spot.{Spot}
use Rattle.kc_layout.specs.Places.{◌>>=◌, Place, at_step, bare, end_of, whole_byte}

-- a byte: the byte offsets of the pointers that lead to a struct, a byte in it, and the type there
pub record ByteAt : Type 0 where
  pub hops : List ℕ
  pub byte : ℕ
  pub ty : ℕ

-- the bits of a number in a struct
pub record BitsAt : Type 0 where
  pub bit : ℕ
  pub width : ℕ
  pub signed : Bool

-- a number: the pointers that lead to a struct, the bits in it, and the type there
pub record NumberAt : Type 0 where
  pub hops : List ℕ
  pub bits : BitsAt
  pub ty : ℕ

-- the byte at a place, which begins at a whole byte and is no bit-field
abbrev pub byte_at : Place → Option ℕ → Result ByteAt QRule
byte_at place None = Err Q6
byte_at place (Some byte) = Ok (record { hops = place.hops; byte = byte; ty = place.spot.ty })

-- the byte that a path leads to
abbrev pub located : Types → ℕ → List ℕ → Result ByteAt PathFault
located types id path = do
  end ← end_of types id path
  at_step end.step (byte_at end.place (whole_byte end.place.spot))

-- how a number of a kind lies: an INT as its record says; a pointer has 64 bits, and an enum those of its
-- size, and its kind flag says that it is signed
abbrev pub number_if : Option IntOf → Kind → Bool → ℕ → Option Number
number_if int Int flag size = option_map (λ i. record { offset = i.offset; width = i.bits; signed = i.signed }) int
number_if int Ptr flag size = Some (record { offset = 0; width = 64; signed = false })
number_if int Enum flag size = Some (record { offset = 0; width = 8 * size; signed = flag })
number_if int Enum64 flag size = Some (record { offset = 0; width = 8 * size; signed = flag })
number_if int _ flag size = None

abbrev pub number_numbered : Types → ℕ → Option Number
number_numbered types id = option_and_then (λ (r : Record). number_if (int_of r) r.kind r.flag r.rest) (record_numbered types id)

-- bits below 2^36 are counted, and a number has 1 to 64
abbrev pub bits_at : ℕ → ℕ → Bool → Result BitsAt QRule
bits_at bit width signed =
    if nat_lt bit (2 ^ 36) then (if nat_le 1 width && nat_le width 64 then Ok (record { bit = bit; width = width; signed = signed }) else Err Q6)
    else Err Q5

-- the bits of a number at a spot: a bit-field has its own
abbrev pub bits_of : Spot → Number → Result BitsAt QRule
bits_of spot number =
    if spot.width == 0 then bits_at (spot.bit + number.offset) number.width number.signed
    else bits_at spot.bit spot.width number.signed

-- the number at a place
unfoldable pub number_at : Types → Place → Result NumberAt QRule
number_at types place = do
  id ← bare types place.spot.ty
  number ← ok_or (number_numbered types id) Q6
  bits ← bits_of place.spot number
  Ok (record { hops = place.hops; bits = bits; ty = place.spot.ty })

-- the number that a path leads to
abbrev pub field : Types → ℕ → List ℕ → Result NumberAt PathFault
field types id path = do
  end ← end_of types id path
  at_step end.step (number_at types end.place)
