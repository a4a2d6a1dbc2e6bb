-- The records of types. A record has three numbers of 32 bits: where its name begins in the strings, an
-- info, and a size or the number of a type. The info has the count of items (vlen) in bits 0 to 15, the
-- kind in bits 24 to 28 and the kind flag in bit 31. Numbers that depend on the kind follow.
-- Source: the kernel's document "BPF Type Format", "Type Encoding".
use Rattle.std.specs.Prelude.{◌≤◌, IsSome, ℕ, zero, suc, ◌+◌, ◌*◌, ◌/◌, ◌%◌, ◌^◌, Bool, true, List, [], ◌∷◌, length, Option, Some, None, unwrap_or, Result, Ok, Err, ◌==◌, ◌&&◌, nat_lt, nat_le, if◌then◌else◌}
use Rattle.kc_btf.specs.declared.kind.Kind.{Kind}
use Rattle.kc_btf.specs.declared.kind.Kind.TheVariants.{Int}
use Rattle.kc_btf.specs.declared.kind.Role.TheVariants.{ToName}
use Rattle.kc_btf.specs.declared.stop.BtfFault.{BtfFault}
use Rattle.kc_btf.specs.declared.stop.BRule.TheVariants.{B6, B7}
use Rattle.kc_btf.specs.Answers.{unless}
use Rattle.kc_btf.specs.Numbers.{word, words}
use Rattle.kc_btf.specs.Kind.{kind_of, following}
use Rattle.kc_btf.specs.Role.{rest_role, role_of, is_inside}

-- a type as the file has it
pub record Record : Type 0 where
  pub name : ℕ
  pub kind : Kind
  pub flag : Bool
  pub vlen : ℕ
  -- the size or the number of a type
  pub rest : ℕ
  -- the numbers that follow
  pub words : List ℕ
  -- the bits of the info that mean nothing: 16 to 23, and 29 and 30
  pub low_spare : ℕ
  pub high_spare : ℕ

-- the parts of an info
abbrev pub kind_number_at : List ℕ → ℕ → ℕ
kind_number_at bytes at = word bytes (at + 4) / 2 ^ 24 % 32

abbrev pub vlen_at : List ℕ → ℕ → ℕ
vlen_at bytes at = word bytes (at + 4) % 2 ^ 16

-- the record at a byte place, of a kind
abbrev pub record_of : Kind → List ℕ → ℕ → Record
record_of kind bytes at = record {
  name = word bytes at;
  kind = kind;
  flag = word bytes (at + 4) / 2 ^ 31 == 1;
  vlen = vlen_at bytes at;
  rest = word bytes (at + 8);
  words = words (following kind (vlen_at bytes at)) bytes (at + 12);
  low_spare = word bytes (at + 4) / 2 ^ 16 % 2 ^ 8;
  high_spare = word bytes (at + 4) / 2 ^ 29 % 4;
}

-- the record at a byte place, of the kind that its info has. Only places whose kind is known are read.
unfoldable pub record_at : List ℕ → ℕ → Record
record_at bytes at = record_of (unwrap_or (kind_of (kind_number_at bytes at)) Int) bytes at

-- the bytes of a record
abbrev pub record_size : Record → ℕ
record_size r = 12 + 4 * following r.kind r.vlen

-- the first rule of B7, B6 and B7 that the record at a byte place breaks, where the types end at a place
abbrev pub kind_fault : Option Kind → List ℕ → ℕ → ℕ → Option BtfFault
kind_fault None bytes at end = Some (record { rule = B6; at = at })
kind_fault (Some kind) bytes at end =
    if nat_lt end (at + record_size (record_of kind bytes at)) then Some (record { rule = B7; at = at }) else None

-- B7 where its three numbers don't fit, and else the fault by its kind
unfoldable pub record_fault : List ℕ → ℕ → ℕ → Option BtfFault
record_fault bytes at end =
    if nat_lt end (at + 12) then Some (record { rule = B7; at = at })
    else kind_fault (kind_of (kind_number_at bytes at)) bytes at end

-- a record of a known kind stands whole at a byte place
pub record IsRecord (bytes : List ℕ) (at : ℕ) : Type 0 where
  pub known : IsSome (kind_of (kind_number_at bytes at))
  pub whole : at + record_size (record_at bytes at) ≤ length bytes

-- a place before others
abbrev pub before : ℕ → Result (List ℕ) BtfFault → Result (List ℕ) BtfFault
before place (Ok places) = Ok (place ∷ places)
before place (Err fault) = Err fault

-- the places of the records from a byte place to the types' end, or the first fault. No more than `most`
-- are read; the bytes that are left are enough, since each record takes some.
unfoldable pub places : ℕ → List ℕ → ℕ → ℕ → Result (List ℕ) BtfFault
places zero bytes at end = Ok []
places (suc most) bytes at end =
    if nat_le end at then Ok []
    else unless (record_fault bytes at end) (before at (places most bytes (at + record_size (record_at bytes at)) end))

-- whether the numbers that follow a record lie inside, from an index on
unfoldable pub words_inside : ℕ → ℕ → Kind → ℕ → List ℕ → Bool
words_inside strings types kind i [] = true
words_inside strings types kind i (w ∷ ws) = is_inside strings types (role_of kind i) w && words_inside strings types kind (i + 1) ws

-- whether each name and type of a record lies inside, where the strings have this length and so many types
-- are counted
unfoldable pub refers_inside : ℕ → ℕ → Record → Bool
refers_inside strings types r =
    is_inside strings types ToName r.name && is_inside strings types (rest_role r.kind) r.rest
    && words_inside strings types r.kind 0 r.words
