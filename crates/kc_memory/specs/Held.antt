-- How many words a dump holds.
use Rattle.std.specs.Prelude.{ℕ, zero, suc, ◌*◌, ◌^◌, if◌then◌else◌, is_some, List, [], ◌∷◌, length}
use Rattle.kc_memory.specs.Image.{Physical, pword}

-- the multiples of 8 below 8 * n at which there is a word
unfoldable pub held_below : Physical → ℕ → List ℕ
held_below physical zero = []
held_below physical (suc n) = if is_some (pword physical (8 * n)) then 8 * n ∷ held_below physical n else held_below physical n

-- those below 2^64
unfoldable pub held : Physical → List ℕ
held physical = held_below physical (2 ^ 61)

abbrev pub word_count : Physical → ℕ
word_count physical = length (held physical)
