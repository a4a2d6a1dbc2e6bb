-- Flattened files (makedumpfile, IMPLEMENTATION, "Flattened format"; makedumpfile.h, makedumpfile_header and makedumpfile_data_header).
use Rattle.std.specs.Prelude.{◌≡◌, ◌<◌, ◌≤◌, true, false, ℕ, zero, suc, ◌+◌, ◌-◌, ◌^◌, ◌==◌, ◌&&◌, max, nat_eq, nat_lt, nat_le, Bool, List, [], ◌∷◌, ◌++◌, length, take, drop, slice_index, Option, Some, None, Result, Ok, Err, if◌then◌else◌}
use Rattle.std.specs.List.{starts_with}
use Rattle.byteorder.specs.Endian.{big_number}
use Rattle.kc_flattened.specs.declared.fault.FlatFault.{FlatFault}
use Rattle.kc_flattened.specs.declared.fault.FlatFault.TheVariants.{Header, Bounds, PastEnd, NoEnd, TooMany}
use Rattle.kc_flattened.specs.declared.record.Record.{Record}

-- "makedumpfile", and zeros up to 16 bytes
abbrev pub signature : List ℕ
signature = 109 ∷ 97 ∷ 107 ∷ 101 ∷ 100 ∷ 117 ∷ 109 ∷ 112 ∷ 102 ∷ 105 ∷ 108 ∷ 101 ∷ 0 ∷ 0 ∷ 0 ∷ 0 ∷ []

abbrev pub is_flat : List ℕ → Bool
is_flat head = starts_with nat_eq head signature

-- a file of this size is flattened
abbrev pub is_flat_by : ℕ → List ℕ → Bool
is_flat_by size bytes = if nat_lt size 16 then false else is_flat (take 16 bytes)

-- the number of 8 bytes at a place, the highest byte first
abbrev pub number : List ℕ → ℕ → ℕ
number bytes at = big_number 8 (drop at bytes)

-- the 32 bytes of the header that are used: after the signature, the type and the version are 1
abbrev pub is_head : List ℕ → Bool
is_head head = (number head 16 == 1) && (number head 24 == 1)

-- the last record has -1 as its offset and as its size
abbrev pub is_last : ℕ → ℕ → Bool
is_last to count = (to == 2 ^ 64 - 1) && (count == 2 ^ 64 - 1)

-- the record whose first 16 bytes stand at a place of a file of this size, or None for the last
abbrev pub record_by : ℕ → ℕ → ℕ → ℕ → Result (Option Record) FlatFault
record_by size at to count =
    if is_last to count then Ok None
    else (if nat_le (2 ^ 63) (to + count) then Err Bounds
    else (if nat_lt size (at + 16 + count) then Err PastEnd
    else Ok (Some (record { to = to; count = count; from = at + 16 }))))

abbrev pub record_of : ℕ → ℕ → List ℕ → Result (Option Record) FlatFault
record_of size at head = record_by size at (number head 0) (number head 8)

abbrev pub record_at : ℕ → ℕ → List ℕ → Result (Option Record) FlatFault
record_at size at bytes =
    if nat_lt size (at + 16) then Err NoEnd
    else record_of size at (take 16 (drop at bytes))

abbrev pub before : List Record → Result (List Record) FlatFault → Result (List Record) FlatFault
before first (Ok records) = Ok (first ++ records)
before first (Err fault) = Err fault

-- a record, and those that follow it
abbrev pub and_more : Result (Option Record) FlatFault → (ℕ → Result (List Record) FlatFault) → Result (List Record) FlatFault
and_more (Err fault) rest = Err fault
and_more (Ok None) rest = Ok []
and_more (Ok (Some r)) rest = before (r ∷ []) (rest (r.from + r.count))

-- the records from a place on, of which there are fewer than so many
unfoldable pub records_from : ℕ → ℕ → ℕ → List ℕ → Result (List Record) FlatFault
records_from zero size at bytes = Err TooMany
records_from (suc n) size at bytes = and_more (record_at size at bytes) (λ next. records_from n size next bytes)

-- the records of a flattened file of this size: its header is 4096 bytes long, and it has fewer than 2^22 records
unfoldable pub records_of : ℕ → List ℕ → Result (List Record) FlatFault
records_of size bytes =
    if nat_lt size 4096 then Err Header
    else (if is_head (take 32 bytes) then records_from 4194304 size 4096 bytes else Err Header)

-- a record has a byte for this place
abbrev pub is_over : Record → ℕ → Bool
is_over r i = nat_le r.to i && nat_lt i (r.to + r.count)

-- the byte at a place after a record is written, where b stood there
abbrev pub byte_of : List ℕ → Record → ℕ → ℕ → ℕ
byte_of bytes r i b = if is_over r i then slice_index bytes (r.from + (i - r.to)) else b

-- the same after one record and then the next
unfoldable pub written : List ℕ → List Record → ℕ → ℕ → ℕ
written bytes [] i b = b
written bytes (r ∷ rs) i b = written bytes rs i (byte_of bytes r i b)

-- how far records reach, of which those without bytes reach nowhere
abbrev pub reach : Record → ℕ
reach r = if r.count == 0 then 0 else r.to + r.count

unfoldable pub size_of : List Record → ℕ
size_of [] = 0
size_of (r ∷ rs) = max (reach r) (size_of rs)

-- so many values of a function, from a place on
unfoldable pub values : (ℕ → ℕ) → ℕ → ℕ → List ℕ
values f at zero = []
values f at (suc n) = f at ∷ values f (at + 1) n

-- what records write, with zeros where none does
abbrev pub pasted : List ℕ → List Record → List ℕ
pasted bytes records = values (λ i. written bytes records i 0) 0 (size_of records)

-- the records of a file of this size, or None where it isn't flattened
abbrev pub found_of : Result (List Record) FlatFault → Result (Option (List Record)) FlatFault
found_of (Ok records) = Ok (Some records)
found_of (Err fault) = Err fault

abbrev pub flat_of : ℕ → List ℕ → Result (Option (List Record)) FlatFault
flat_of size bytes = if is_flat_by size bytes then found_of (records_of size bytes) else Ok None

-- the file that is meant, by its records; a file that isn't flattened means itself
abbrev pub meant_by : List ℕ → Result (Option (List Record)) FlatFault → Result (List ℕ) FlatFault
meant_by bytes (Ok (Some records)) = Ok (pasted bytes records)
meant_by bytes (Ok None) = Ok bytes
meant_by bytes (Err fault) = Err fault

-- the file that a file means
unfoldable pub unflat : List ℕ → Result (List ℕ) FlatFault
unflat bytes = meant_by bytes (flat_of (length bytes) bytes)

-- a record's bytes are inside a file of this size, and go to an offset of 63 bits
abbrev pub IsInside : ℕ → Record → Type 0
IsInside size r = (r.to + r.count < 2 ^ 63) × (r.from + r.count ≤ size)

-- the places from the first to before the last of a buffer for the bytes from `off` on are those that a record is over, and the
-- record's byte for the first of them is the file's byte `from`
pub record IsOver (r : Record) (off count first last from : ℕ) : Type 0 where
  pub order : first ≤ last
  pub room : last ≤ count
  pub before : (k : ℕ) → k < first → is_over r (off + k) ≡ false
  pub here : (k : ℕ) → first ≤ k → k < last → is_over r (off + k) ≡ true
  pub after : (k : ℕ) → last ≤ k → k < count → is_over r (off + k) ≡ false
  pub source : (k : ℕ) → first ≤ k → r.from + (off + k - r.to) ≡ from + (k - first)

-- bytes stand in a buffer from the first place to before the last, and the others are as they were
pub record IsPut (old : List ℕ) (first last : ℕ) (bytes new : List ℕ) : Type 0 where
  pub before : (k : ℕ) → k < first → slice_index new k ≡ slice_index old k
  pub here : (k : ℕ) → first ≤ k → k < last → slice_index new k ≡ slice_index bytes (k - first)
  pub after : (k : ℕ) → last ≤ k → slice_index new k ≡ slice_index old k
