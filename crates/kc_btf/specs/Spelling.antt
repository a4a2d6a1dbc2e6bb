-- Records written out as the kernel's document lays them: three numbers of 32 bits, the lowest byte first,
-- and the numbers behind them. The info has the count of items in bits 0 to 15, the kind in bits 24 to 28
-- and the kind flag in bit 31; the other bits mean nothing.
use Rattle.std.specs.Prelude.{◌≡◌, ◌<◌, ℕ, ◌+◌, ◌*◌, ◌^◌, List, ◌∷◌, length, All, if◌then◌else◌}
use Rattle.std.specs.List.{flat_map}
use Rattle.byteorder.specs.Endian.{little_bytes}
use Rattle.kc_btf.specs.Kind.{kind_number, following}
use Rattle.kc_btf.specs.Records.{Record}

abbrev pub info : Record → ℕ
info r = r.vlen + 2 ^ 16 * r.low_spare + 2 ^ 24 * kind_number r.kind + 2 ^ 29 * r.high_spare + 2 ^ 31 * (if r.flag then 1 else 0)

-- the numbers of a record
abbrev pub numbers : Record → List ℕ
numbers r = r.name ∷ info r ∷ r.rest ∷ r.words

-- the bytes of a record
unfoldable pub spelled : Record → List ℕ
spelled r = flat_map (little_bytes 4) (numbers r)

-- what can be written so: as many numbers follow as the kind and the count say, and each part fits its bits
pub record HasForm (r : Record) : Type 0 where
  pub count : length r.words ≡ following r.kind r.vlen
  pub vlen : r.vlen < 2 ^ 16
  pub low_spare : r.low_spare < 2 ^ 8
  pub high_spare : r.high_spare < 2 ^ 2
  pub numbers : All (λ n. n < 2 ^ 32) (numbers r)
