-- The symbols: each has a name, spelled in tokens, and an offset.
-- Source: scripts/kallsyms.c, write_src; kernel/kallsyms.c, kallsyms_expand_symbol and get_symbol_offset.
use Rattle.std.specs.Prelude.{ℕ, zero, suc, ◌+◌, ◌*◌, ◌%◌, ◌&&◌, nat_lt, is_some, if◌then◌else◌, List, [], ◌∷◌, length, get_or, Result, Ok, Err}
use Rattle.std.specs.List.{flat_map}
use Rattle.kc_memory.specs.Image.{Image}
use Rattle.kc_syms.specs.Rows.{is_kind, name_in}
use Rattle.kc_kallsyms.specs.declared.fault.TableFault.{TableFault}
use Rattle.kc_kallsyms.specs.declared.fault.TableFault.TheVariants.{S7, S8}
use Rattle.kc_kallsyms.specs.declared.places.Places.{Places}
use Rattle.kc_bytes.specs.Bytes.{onward}
use Rattle.kc_kallsyms.specs.Bytes.{byte_at, bytes_at, four_at}
use Rattle.kc_kallsyms.specs.Reading.{◌>>=◌, Why, judged}
use Rattle.kc_kallsyms.specs.Tables.{Tables}

pub record Symbol : Type 0 where
  -- the letter of its kind
  pub letter : ℕ
  pub name : List ℕ
  -- from which its address is made
  pub offset : ℕ

-- How many tokens the name at an address has, and where these begin: a length of one byte, or where its bit 7 is set of two, the low
-- seven bits and then the bits from 7 on (Linux 6.0, whose names are shorter than 128 bytes, has lengths of one byte).
pub record Length : Type 0 where
  pub count : ℕ
  pub start : ℕ

-- by the first byte, and the second where there is one
abbrev pub length_by : Image → ℕ → ℕ → Result Length Why
length_by image at low =
    if nat_lt low 128 then Ok (record { count = low; start = onward at 1 })
    else (byte_at image (onward at 1) >>= (λ high. Ok (record { count = low % 128 + 128 * high; start = onward at 2 })))

unfoldable pub length_at : Image → ℕ → Result Length Why
length_at image at = byte_at image at >>= length_by image at

-- what a name's tokens spell together, and where the next name begins: where this one ends
pub record Spelled : Type 0 where
  pub text : List ℕ
  pub next : ℕ

abbrev pub token_of : List (List ℕ) → ℕ → List ℕ
token_of tokens number = get_or tokens number []

unfoldable pub name_at : Image → List (List ℕ) → ℕ → Result Spelled Why
name_at image tokens at = do
  size ← length_at image at
  numbers ← bytes_at image size.count size.start
  Ok (record { text = flat_map (token_of tokens) numbers; next = onward size.start size.count })

-- it is a letter of a kind, and then the name, of 1 to 511 visible bytes
unfoldable pub symbol_of : ℕ → List ℕ → ℕ → Result Symbol TableFault
symbol_of number [] offset = Err (S7 number)
symbol_of number (letter ∷ name) offset =
    if is_kind letter
    then (if is_some (name_in name) && nat_lt (length name) 512 then Ok (record { letter = letter; name = name; offset = offset }) else Err (S7 number))
    else Err (S8 number)

-- where the name and the offset of a symbol begin
pub record Spot : Type 0 where
  pub name : ℕ
  pub offset : ℕ

-- what stands at a spot: a text and an offset, and the spot of the next symbol
pub record Entry : Type 0 where
  pub text : List ℕ
  pub offset : ℕ
  pub next : Spot

unfoldable pub entry_at : Image → List (List ℕ) → Spot → Result Entry Why
entry_at image tokens spot = do
  name ← name_at image tokens spot.name
  offset ← four_at image spot.offset
  Ok (record { text = name.text; offset = offset; next = record { name = name.next; offset = onward spot.offset 4 } })

-- so many symbols, from a number on
unfoldable pub symbols_at : Image → List (List ℕ) → ℕ → ℕ → Spot → Result (List Symbol) Why
symbols_at image tokens zero number spot = Ok []
symbols_at image tokens (suc more) number spot = do
  entry ← entry_at image tokens spot
  symbol ← judged (symbol_of number entry.text entry.offset)
  rest ← symbols_at image tokens more (number + 1) entry.next
  Ok (symbol ∷ rest)

-- all of them
abbrev pub symbols_in : Image → Places → Tables → Result (List Symbol) Why
symbols_in image places tables =
    symbols_at image tables.tokens tables.count 0 (record { name = places.names; offset = places.offsets })
