-- What is printed of a word that holds a value.
use Rattle.std.specs.Prelude.{ℕ, nat_eq, List, [], map, ◌++◌, codes, Option, Some, None}
use Rattle.std.specs.List.{find}
use Rattle.kc_memory.specs.declared.words.Origin.TheVariants.{File}
use Rattle.kc_memory.specs.declared.words.Place.{Place}
use Rattle.kc_owner.specs.declared.object.keys.CacheKey.{CacheKey}
use Rattle.kc_sight.specs.declared.refs.place.FoundWord.{FoundWord}
use Rattle.kc_sight.specs.declared.refs.sought.Writing.{Writing}
use Rattle.kc_sight.specs.declared.refs.sought.Writing.TheVariants.{Plain, Encoded}
use Rattle.kc_report.specs.Lines.{place_line}
use Rattle.kc_text.specs.Text.{hex, visible}

-- the place of a word that holds a value: no virtual address is asked for it
abbrev pub place_in : FoundWord → Place
place_in f = record { va = None; pa = f.place.pa; off = File f.place.off; value = f.value }

-- the cache whose objects have such a free pointer
abbrev pub key_line : Option CacheKey → List ℕ
key_line None = []
key_line (Some k) = codes "encoded " ++ hex k.cache.at ++ codes " " ++ map visible k.cache.name ++ codes "\n"

-- how a word holds the value, where it isn't as it is: the first of these caches with that random number
abbrev pub writing_text : List CacheKey → Writing → List ℕ
writing_text keys Plain = []
writing_text keys (Encoded random) = key_line (find (λ (k : CacheKey). nat_eq k.random random) keys)

abbrev pub found_lines : List CacheKey → FoundWord → List ℕ
found_lines keys f = place_line (place_in f) ++ writing_text keys f.writing
