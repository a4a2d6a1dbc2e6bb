-- That a search is told of while it goes on: where it stops, the sinks took what was due at nearly the same word.
use Rattle.std.specs.Prelude.{◌≡◌, ℕ, ◌+◌, ◌-◌, ◌≤◌, min, List, [], ◌∷◌, ◌++◌, length, take, Option}
use Rattle.kc_word.specs.declared.plain.Segment.{Segment}
use Rattle.kc_outside.specs.Texts.{with_piece}
use Rattle.kc_sight.specs.declared.refs.place.FoundWord.{FoundWord}
use Rattle.kc_sight.specs.Refs.Holding.{word_count}
use Rattle.kc_sight.specs.Refs.Writings.{Sought}
use Rattle.kc_refs.specs.Parts.{words_from}

-- of the segments' first words, so many, those that hold what is looked for
abbrev pub found_until : Sought → List ℕ → List Segment → ℕ → List FoundWord
found_until sought bytes [] n = []
found_until sought bytes (s ∷ others) n = words_from sought bytes s 0 (min n (word_count s)) ++ found_until sought bytes others (n - word_count s)

-- a sink took a first part of a text that is no shorter than another one, with which that text begins
pub record TookBetween (old new : Option (List ℕ)) (least most : List ℕ) : Type 0 where
  pub count : ℕ
  pub enough : length least ≤ count
  pub within : count ≤ length most
  pub took : new ≡ with_piece old (take count most)

-- Of so many words, for each number of which there is a text that is written and one that is said, a search read some: all that is written and said of these was
-- taken, and nothing that is due more than 256 KiB later.
pub record InPace (written said : ℕ → List ℕ) (words : ℕ) (out_old out_new err_old err_new : Option (List ℕ)) : Type 0 where
  pub at : ℕ
  pub next : ℕ
  pub order : at ≤ next
  pub near : next ≤ at + 32768
  pub within : next ≤ words
  pub out : TookBetween out_old out_new (written at) (written next)
  pub err : TookBetween err_old err_new (said at) (said next)
