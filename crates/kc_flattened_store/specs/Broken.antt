-- What is wrong with a flattened file that is refused, in the words of its format (makedumpfile, IMPLEMENTATION, "Flattened format"): a header of
-- 4096 bytes, and records one after another, each of an offset, a size and so many bytes, up to the last one, whose offset and size are -1.
use Rattle.std.specs.Prelude.{◌≡◌, ◌<◌, ◌≤◌, ◌+◌, ◌^◌, true, false, ℕ, zero, suc, List, length, take, drop, Some}
use Rattle.kc_flattened.specs.declared.fault.FlatFault.{FlatFault}
use Rattle.kc_flattened.specs.declared.fault.FlatFault.TheVariants.{Header, Bounds, PastEnd, NoEnd, TooMany}
use Rattle.kc_flattened.specs.Flat.{is_flat_by, is_head, is_last, number}
use Rattle.kc_flattened_store.specs.Faults.{refusal}

-- the offset and the size that a record at a place says
abbrev pub said_offset : List ℕ → ℕ → ℕ
said_offset bytes at = number (take 16 (drop at bytes)) 0

abbrev pub said_size : List ℕ → ℕ → ℕ
said_size bytes at = number (take 16 (drop at bytes)) 8

-- a record stands at a place, isn't the last one, and has its bytes in the file; after them the next one begins
pub record IsRecord (bytes : List ℕ) (at next : ℕ) : Type 0 where
  pub whole : at + 16 ≤ length bytes
  pub more : is_last (said_offset bytes at) (said_size bytes at) ≡ false
  pub bounds : said_offset bytes at + said_size bytes at < 2 ^ 63
  pub inside : at + 16 + said_size bytes at ≤ length bytes
  pub after : next ≡ at + 16 + said_size bytes at

-- so many records lead from a place to another
unfoldable pub Lead : List ℕ → ℕ → ℕ → ℕ → Type 0
Lead bytes zero at end = end ≡ at
Lead bytes (suc n) at end = (next : ℕ) × IsRecord bytes at next × Lead bytes n next end

-- a place where something is wrong, to which fewer than so many records lead
pub record IsWrongAfter (bytes : List ℕ) (most at : ℕ) (wrong : ℕ → Type 0) : Type 0 where
  pub count : ℕ
  pub few : count < most
  pub place : ℕ
  pub led : Lead bytes count at place
  pub is : wrong place

-- the bytes of a record end at 2^63 or above; they aren't inside the file; the file ends before the head of a record does
abbrev pub IsOutOfBounds : List ℕ → ℕ → Type 0
IsOutOfBounds bytes at = (at + 16 ≤ length bytes) × (is_last (said_offset bytes at) (said_size bytes at) ≡ false) × (2 ^ 63 ≤ said_offset bytes at + said_size bytes at)

abbrev pub IsPastEnd : List ℕ → ℕ → Type 0
IsPastEnd bytes at = (at + 16 ≤ length bytes) × (said_offset bytes at + said_size bytes at < 2 ^ 63) × (length bytes < at + 16 + said_size bytes at)

abbrev pub IsCut : List ℕ → ℕ → Type 0
IsCut bytes at = length bytes < at + 16

-- what a fault says of the records from a place on, of which fewer than so many may be
abbrev pub IsWrongFrom : List ℕ → ℕ → ℕ → FlatFault → Type 0
IsWrongFrom bytes most at Header = ⊥
IsWrongFrom bytes most at Bounds = IsWrongAfter bytes most at (IsOutOfBounds bytes)
IsWrongFrom bytes most at PastEnd = IsWrongAfter bytes most at (IsPastEnd bytes)
IsWrongFrom bytes most at NoEnd = IsWrongAfter bytes most at (IsCut bytes)
IsWrongFrom bytes most at TooMany = (end : ℕ) × Lead bytes most at end

-- the header is whole, and its type and its version are 1
abbrev pub HasHeader : List ℕ → Type 0
HasHeader bytes = (4096 ≤ length bytes) × (is_head (take 32 bytes) ≡ true)

-- W1 to W5: the file begins as flattened files do, and has this fault
abbrev pub IsBroken : List ℕ → FlatFault → Type 0
IsBroken bytes Header = (is_flat_by (length bytes) bytes ≡ true) × (HasHeader bytes → ⊥)
IsBroken bytes fault = (is_flat_by (length bytes) bytes ≡ true) × HasHeader bytes × IsWrongFrom bytes 4194304 4096 fault

-- a flattened file that is refused is as the fault says
abbrev pub RefusedAreBroken : Type 0
RefusedAreBroken = (bytes : List ℕ) (fault : FlatFault) → refusal bytes ≡ Some fault → IsBroken bytes fault
