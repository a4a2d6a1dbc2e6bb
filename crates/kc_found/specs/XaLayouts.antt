-- Where the words of an xarray stand, as plain data.
use Rattle.std.specs.Prelude.{ℕ, Bool, ◌||◌, nat_eq, IsTrue}

-- the offsets of an xarray's head and of a node's bytes and words, the number of a node's slots, and whether it is an
-- IDR's
pub record XaLayout : Type 0 where
  pub head : ℕ
  pub shift : ℕ
  pub offset : ℕ
  pub count : ℕ
  pub nr_values : ℕ
  pub parent : ℕ
  pub array : ℕ
  pub slots : ℕ
  pub chunk : ℕ
  pub idr : Bool

-- the numbers of slots that a kernel gives its nodes (CONFIG_BASE_SMALL or not)
abbrev pub IsChunk : ℕ → Type 0
IsChunk chunk = IsTrue (nat_eq chunk 16 || nat_eq chunk 64)
