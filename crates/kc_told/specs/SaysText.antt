-- What is printed of a word by itself, where nothing is known of its type.
use Rattle.std.specs.Prelude.{ℕ, List, [], ◌++◌, codes, Option, Result}
use Rattle.kc_memory.specs.declared.words.VWord.{VWord}
use Rattle.kc_memory.specs.Stopped.{Stopped}
use Rattle.kc_sight.specs.declared.meaning.Meaning.{Meaning}
use Rattle.kc_sight.specs.declared.meaning.Meaning.TheVariants.{Number}
use Rattle.kc_sight.specs.Meanings.{meaning}
use Rattle.kc_sight.specs.Nearest.{SymbolAt}
use Rattle.kc_told.specs.Near.{nothing}
use Rattle.kc_told.specs.Text.{meaning_text, span_line}

-- what it says, but of a number that may be anything
abbrev pub says_line : (ℕ → Option SymbolAt) → Meaning → ℕ → List ℕ
says_line symbols Number value = []
says_line symbols m value = codes "says " ++ meaning_text symbols nothing m value ++ codes "\n"

-- and how far that goes on in its 4096 bytes
abbrev pub says_lines : (ℕ → Option SymbolAt) → ℕ → ℕ → List (Result VWord Stopped) → List ℕ
says_lines symbols va value page = says_line symbols (meaning va value) value ++ span_line va (meaning va value) page
