-- The tables beside the names: how many symbols there are, the address that offsets count from, and the tokens.
-- Source: scripts/kallsyms.c, write_src.
use Rattle.std.specs.Prelude.{ℕ, zero, suc, ◌+◌, ◌^◌, ◌&&◌, nat_le, if◌then◌else◌, List, [], ◌∷◌, Result, Ok, Err}
use Rattle.kc_memory.specs.Image.{Image}
use Rattle.kc_kallsyms.specs.declared.fault.TableFault.TheVariants.{S5}
use Rattle.kc_kallsyms.specs.declared.places.Places.{Places}
use Rattle.kc_bytes.specs.Bytes.{onward}
use Rattle.kc_kallsyms.specs.Bytes.{four_at, eight_at, string_at, two_at}
use Rattle.kc_kallsyms.specs.Reading.{◌>>=◌, Why, Bad}

pub record Tables : Type 0 where
  -- how many symbols there are
  pub count : ℕ
  -- the address that offsets count from
  pub base : ℕ
  -- the tokens by their numbers, 256 of them
  pub tokens : List (List ℕ)

-- there is a symbol, and there are 4,194,304 of them at most
abbrev pub checked_count : ℕ → Result ℕ Why
checked_count count = if nat_le 1 count && nat_le count (2 ^ 22) then Ok count else Err (Bad (S5 count))

-- The token of a number: its place in the table of tokens stands at an address, in two bytes. A token has fewer than 512 bytes
-- (KSYM_NAME_LEN of include/linux/kallsyms.h), and a NUL after them.
unfoldable pub token_at : Image → ℕ → ℕ → ℕ → Result (List ℕ) Why
token_at image table number at = do
  start ← two_at image at
  string_at image number 512 (onward table start)

-- so many tokens, from a number on
unfoldable pub tokens_at : Image → ℕ → ℕ → ℕ → ℕ → Result (List (List ℕ)) Why
tokens_at image table zero number at = Ok []
tokens_at image table (suc more) number at = do
  token ← token_at image table number at
  rest ← tokens_at image table more (number + 1) (onward at 2)
  Ok (token ∷ rest)

unfoldable pub tables_at : Image → Places → Result Tables Why
tables_at image places = do
  told ← four_at image places.count
  count ← checked_count told
  base ← eight_at image places.base
  tokens ← tokens_at image places.tokens 256 0 places.index
  Ok (record { count = count; base = base; tokens = tokens })
