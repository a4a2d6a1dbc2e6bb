-- What standard output took is true of the dump.
use Rattle.std.specs.Prelude.{◌≡◌, ⊤, ℕ, List, Option, Some, None, Ok, Err}
use Rattle.kc_outside.specs.Files.{Files}
use Rattle.kc_outside.specs.Texts.{with_piece}
use Rattle.kc_command.specs.Ends.Output.{Output, Usage, Ends, output_of, word_files, written}
use Rattle.kc_why.specs.Laws.{Stand}
use Rattle.kc_why.specs.Why.{Shown, usage_text, why_asks, why_written}

-- the output of the words after the program's name over a store's files
abbrev pub out_of : List (List ℕ) → Files → Option (Output Shown)
out_of words files = output_of (why_asks words) (word_files (why_asks words) files)

-- what is shown stands in the dump
abbrev pub StandsIn : Output Shown → Type 0
StandsIn Usage = ⊤
StandsIn (Ends (Ok shown)) = Stand shown
StandsIn (Ends (Err refusal)) = ⊤

-- standard output took the text of an output, which stands so
abbrev pub TookTrue : Option (Output Shown) → Option (List ℕ) → Option (List ℕ) → Type 0
TookTrue None old new = ⊥
TookTrue (Some output) old new = (new ≡ with_piece old (written usage_text why_written output).out) × StandsIn output
