-- What a walk over a list answers.
use Rattle.std.specs.Prelude.{ℕ, ◌++◌, List, Option, Result, Ok, Err}
use Rattle.std.specs.List.{flat_map}
use Rattle.kc_memory.specs.Image.{Image}
use Rattle.kc_kallsyms.specs.declared.stop.TableStop.{TableStop}
use Rattle.kc_kallsyms.specs.Going.{CameAs}
use Rattle.kc_kallsyms.specs.Reading.{◌>>=◌, ReadsAs, Why}
use Rattle.kc_kallsyms.specs.Bytes.{bytes_at}
use Rattle.kc_kallsyms.specs.Symbols.{token_of}

-- all were taken that the definition has, or it stopped where the definition does
abbrev pub WalksAs : {I X A : Type 0} → (List X → Type 0) → (I → Result (List X) Why) → Option I → Result A TableStop → Type 0
WalksAs Holds whole image (Ok a) = CameAs Holds whole image
WalksAs {X = X} Holds whole image (Err stop) = ReadsAs (λ (xs : List X). xs) whole image (Err stop)

-- a text, and after it the tokens of so many numbers
abbrev pub text_from : Image → List (List ℕ) → List ℕ → ℕ → ℕ → Result (List ℕ) Why
text_from image tokens text count at = bytes_at image count at >>= (λ numbers. Ok (text ++ flat_map (token_of tokens) numbers))
