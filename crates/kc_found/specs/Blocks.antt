-- Words taken as they are kept: by blocks of eight in an open table.
use Rattle.std.specs.Prelude.{false, ◌≡◌, ℕ, ◌+◌, ◌-◌, ◌*◌, ◌/◌, ◌%◌, ◌^◌, ◌<◌, ◌≤◌, ◌≢◌, min, Bool, cond, nat_eq, List, [], ◌∷◌, length, get_or}
use Rattle.kc_found.specs.declared.blocks.Block.{Block}
use Rattle.kc_found.specs.declared.blocks.Spot.{Spot}
use Rattle.kc_found.specs.declared.blocks.Spot.TheVariants.{Here, Free, Nowhere}
use Rattle.kc_found.specs.Taken.{is_taken, with_word}

-- the number that no block has
abbrev pub none : ℕ
none = 18446744073709551615

-- a place where no block stands
unfoldable pub free : Block
free = record { number = none; words = [] }

-- the number of the block at a place
abbrev pub number_at : List Block → ℕ → ℕ
number_at blocks place = (get_or blocks place free).number

-- how many of a table's places are first places of blocks
unfoldable pub first_places : ℕ → ℕ
first_places places = places - min (places / 4) 128

-- the first place of a block, in a table of so many places
unfoldable pub first_place : ℕ → ℕ → ℕ
first_place number places = (number * 11400714819323198485 % 2 ^ 64 / 2 ^ 32) * first_places places % 2 ^ 64 / 2 ^ 32

-- One comes to a place for a block of this number, from its first place on by other blocks.
pub record Reaches (blocks : List Block) (number place : ℕ) : Type 0 where
  pub from : first_place number (length blocks) ≤ place
  pub within : place < length blocks
  pub near : place < first_place number (length blocks) + 128
  pub others : (i : ℕ) → first_place number (length blocks) ≤ i → i < place → (number_at blocks i ≢ number) × (number_at blocks i ≢ none)

-- The table as it is kept: each block is reached where it stands, and has eight words.
pub record IsTable (blocks : List Block) : Type 0 where
  pub reached : (place : ℕ) → place < length blocks → number_at blocks place ≢ none → Reaches blocks (number_at blocks place) place
  pub eight : (place : ℕ) → place < length blocks → length (get_or blocks place free).words ≡ 8

-- what is said of a block's spot
abbrev pub IsSpot : List Block → ℕ → Spot → Type 0
IsSpot blocks number (Here place) = Reaches blocks number place × (number_at blocks place ≡ number)
IsSpot blocks number (Free place) = Reaches blocks number place × (number_at blocks place ≡ none)
IsSpot blocks number Nowhere =
    (i : ℕ) → first_place number (length blocks) ≤ i → i < length blocks → i < first_place number (length blocks) + 128 → number_at blocks i ≢ number

-- the addresses taken, with those of a block whose first is at an address
unfoldable pub with_words : List ℕ → ℕ → List Bool → List ℕ
with_words taken pa [] = taken
with_words taken pa (is ∷ more) = with_words (cond is (with_word taken pa) taken) (pa + 8) more

-- with those of a block
unfoldable pub with_block : List ℕ → Block → List ℕ
with_block taken block = cond (nat_eq block.number none) taken (with_words taken (64 * block.number) block.words)

-- with those of all blocks
unfoldable pub with_blocks : List ℕ → List Block → List ℕ
with_blocks taken [] = taken
with_blocks taken (block ∷ more) = with_blocks (with_block taken block) more

-- An address that wasn't taken isn't after a block's words either.
abbrev pub MissesBlock : Block → ℕ → Type 0
MissesBlock block pa = (taken : List ℕ) → is_taken taken pa ≡ false → is_taken (with_block taken block) pa ≡ false

-- no block has this address
pub record Misses (blocks : List Block) (pa : ℕ) : Type 0 where
  pub each : (place : ℕ) → place < length blocks → MissesBlock (get_or blocks place free) pa
