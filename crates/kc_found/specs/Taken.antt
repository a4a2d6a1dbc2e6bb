-- Words that were taken.
use Rattle.std.specs.Prelude.{ℕ, Bool, List, nat_eq}
use Rattle.std.specs.BTreeSet.{insert_key}
use Rattle.std.specs.Ordering.{nat_cmp}
use Rattle.std.specs.Set.{is_member}

-- a physical address is among those that were taken
abbrev pub is_taken : List ℕ → ℕ → Bool
is_taken taken pa = is_member nat_eq taken pa

-- the physical addresses taken, by rising address, with one more
abbrev pub with_word : List ℕ → ℕ → List ℕ
with_word taken pa = insert_key nat_cmp taken pa
