-- How many words are read at a head, at a node and for a key.
use Rattle.std.specs.Prelude.{◌≡◌, ℕ, ◌+◌, ◌*◌, ◌≤◌, ◌++◌, is_none, if◌then◌else◌, List, Option, Some, None, Result, Ok, Err, ⊤}
use Rattle.kc_memory.specs.declared.space.Stop.{Stop}
use Rattle.kc_memory.specs.declared.space.Stop.TheVariants.{Miss, Fault}
use Rattle.kc_found.specs.declared.trees.RbKey.{RbKey}
use Rattle.kc_found.specs.declared.trees.RbSpot.{RbSpot}
use Rattle.kc_found.specs.RbTrees.{RbCourse, broken_by, link_fault, links_at, node_claims, where_ok}
use Rattle.kc_found.specs.Trials.{Trial}
use Rattle.kc_found.specs.Violations.{missed}

-- the words that hold a key, which are none where there is none
abbrev pub key_words : Option RbKey → ℕ
key_words None = 0
key_words (Some k) = if is_none k.number.second then 1 else 2

-- The steps of a key's answer, where a word takes so many at most: those of the words that hold it, and of one word where
-- that first one is missed.
abbrev pub KeyWithin : Result (Option RbKey) Stop → ℕ → ℕ → ℕ → ℕ → Type 0
KeyWithin (Ok key) word most before after = after ≤ before + key_words key * most
KeyWithin (Err (Miss s)) word most before after = s.va ≡ word → after ≤ before + most
KeyWithin (Err Fault) word most before after = ⊤

-- what is tried at a node before its key is read: its three words are read and taken, then R1 to R3
abbrev pub before_key : RbCourse → RbSpot → List (Trial ℕ)
before_key c s =
    where_ok (links_at c s) (missed c.asked (Some s.link)) (λ n. node_claims c.asked n ++ broken_by (link_fault c.asked s n))
