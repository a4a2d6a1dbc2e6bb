-- What is printed of where a value is written.
use Rattle.std.specs.Prelude.{ℕ, List, [], length, map, ◌++◌, codes, decimal, Option, Some, None, Result, Ok, Err}
use Rattle.kc_found.specs.Violations.{Violation}
use Rattle.kc_owner.specs.declared.object.cache.Cache.{Cache}
use Rattle.kc_owner.specs.declared.object.keys.FreeKeys.{FreeKeys}
use Rattle.kc_sight.specs.declared.refs.place.FoundWord.{FoundWord}
use Rattle.kc_text.specs.Compose.{texts}
use Rattle.kc_text.specs.Text.{hex, visible}
use Rattle.kc_told.specs.ObjectText.{unknown_text}
use Rattle.kc_refs.specs.Lines.{found_lines}
use Rattle.kc_why.specs.Searching.{keys_in}

-- a cache whose random number can't be read, so that none of its free pointers is found
abbrev pub unread_line : Cache → List ℕ
unread_line c = codes "unread " ++ hex c.at ++ codes " " ++ map visible c.name ++ codes "\n"

-- why it can't be told what free pointers are encoded with, and none is found then but as it is; or what the ring of all caches breaks, and
-- caches may then be missing
abbrev pub broken_line : Option Violation → List ℕ
broken_line None = []
broken_line (Some v) = codes "encoded" ++ unknown_text v

abbrev pub untold_lines : Option (Result FreeKeys Violation) → List ℕ
untold_lines None = []
untold_lines (Some (Ok keys)) = texts unread_line keys.unread ++ broken_line keys.broken
untold_lines (Some (Err v)) = broken_line (Some v)

-- what follows the lines of the words, which are so many
abbrev pub rest_text : Option (Result FreeKeys Violation) → ℕ → List ℕ
rest_text told count = untold_lines told ++ codes "words " ++ decimal count ++ codes "\n"

-- the lines of each word, and how many they are
abbrev pub words_text : Option (Result FreeKeys Violation) → List FoundWord → List ℕ
words_text told found = texts (found_lines (keys_in told)) found ++ rest_text told (length found)
