-- What is seen of an address.
use Rattle.std.specs.Prelude.{ℕ, ◌+◌, ◌-◌, ◌*◌, ◌/◌, ◌%◌, ◌^◌, List, [], ◌∷◌, ◌++◌, map, Option, Some, None, Result, Ok, Err}
use Rattle.kc_memory.specs.declared.words.Place.{Place}
use Rattle.kc_memory.specs.declared.words.VWord.{VWord}
use Rattle.kc_memory.specs.Image.{Image}
use Rattle.kc_memory.specs.Places.{place_of, places_of}
use Rattle.kc_memory.specs.Stopped.{Stopped}
use Rattle.kc_memory.specs.Translation.{vword}
use Rattle.kc_sight.specs.declared.aliases.Aliases.{Aliases}
use Rattle.kc_sight.specs.declared.aliases.Rules.{Rules}
use Rattle.kc_sight.specs.declared.entries.TableEntry.{TableEntry}
use Rattle.kc_sight.specs.Aliases.{aliases}
use Rattle.kc_sight.specs.Entries.{entries}
use Rattle.kc_sight.specs.Looks.{words}

-- an address, the entries of the page tables on the way to the word that holds it, that word, the same physical word at other addresses,
-- it between four on each side, and all words of its 4096 bytes, each as it reads
pub record Sight : Type 0 where
  pub address : ℕ
  pub entries : List TableEntry
  pub word : Result VWord Stopped
  pub aliases : Aliases
  pub near : List (Result VWord Stopped)
  pub page : List (Result VWord Stopped)

-- where the word begins that holds an address, and where its 4096 bytes do
abbrev pub word_start : ℕ → ℕ
word_start address = address / 8 * 8

abbrev pub page_start : ℕ → ℕ
page_start address = address / 4096 * 4096

-- the words beside the one that holds an address, from the fourth before it; addresses wrap at 2^64
abbrev pub near : Image → ℕ → List (Result VWord Stopped)
near image address = words image ((word_start address + 2 ^ 64 - 32) % 2 ^ 64) 9

abbrev pub sight : Image → Rules → ℕ → Sight
sight image rules address = record {
  address = address;
  entries = entries image (word_start address);
  word = vword image (word_start address);
  aliases = aliases image rules (vword image (word_start address));
  near = near image address;
  page = words image (page_start address) 512;
}

-- the places of the words that are seen
abbrev pub entry_place : TableEntry → Place
entry_place e = record { va = None; pa = e.pa; off = e.word.off; value = e.word.value }

abbrev pub seen_places : List (Result VWord Stopped) → List Place
seen_places [] = []
seen_places (Ok w ∷ seen) = place_of w ∷ seen_places seen
seen_places (Err s ∷ seen) = seen_places seen

abbrev pub alias_places : Option VWord → List Place
alias_places None = []
alias_places (Some w) = place_of w ∷ []

abbrev pub places : Sight → List Place
places s =
    map entry_place s.entries ++ places_of s.word ++ alias_places s.aliases.direct ++ alias_places s.aliases.image ++ seen_places s.near
    ++ seen_places s.page
