-- What is written of the words that are found.
use Rattle.std.specs.Prelude.{◌≡◌, ℕ, List, length, Option}
use Rattle.kc_outside.specs.Texts.{with_piece}
use Rattle.kc_text.specs.Compose.{texts}
use Rattle.kc_sight.specs.declared.refs.place.FoundWord.{FoundWord}
use Rattle.kc_owner.specs.declared.object.keys.CacheKey.{CacheKey}
use Rattle.kc_refs.specs.Lines.{found_lines}

-- a sink took the lines of these words, which are so many
pub record Wrote (keys : List CacheKey) (found : List FoundWord) (old new : Option (List ℕ)) (count : ℕ) : Type 0 where
  pub took : new ≡ with_piece old (texts (found_lines keys) found)
  pub counted : count ≡ length found
