-- How far what a word says goes on, among the words of its page.
use Rattle.std.specs.Prelude.{ℕ, ◌+◌, ◌==◌, Bool, true, false, List, length, take, drop, take_while, reverse, Result, Ok, Err}
use Rattle.kc_memory.specs.declared.words.VWord.{VWord}
use Rattle.kc_memory.specs.Stopped.{Stopped}
use Rattle.kc_sight.specs.declared.meaning.Meaning.{Meaning}
use Rattle.kc_sight.specs.declared.meaning.Meaning.TheVariants.{Zero, Pattern, Text}
use Rattle.kc_sight.specs.declared.span.Span.{Span}
use Rattle.kc_sight.specs.Meanings.{meaning}

-- whether one word fills on what another one does: zeros, one byte, or text
abbrev pub fills_on : Meaning → Meaning → Bool
fills_on Zero Zero = true
fills_on (Pattern a) (Pattern b) = a == b
fills_on Text Text = true
fills_on _ _ = false

-- the same of a word that may not be there
abbrev pub goes_on : Meaning → Result VWord Stopped → Bool
goes_on m (Ok w) = fills_on m (meaning w.va w.value)
goes_on m (Err s) = false

-- how many words directly before one, by its number among them, and directly after it
abbrev pub span : Meaning → List (Result VWord Stopped) → ℕ → Span
span m words at = record {
  before = length (take_while (goes_on m) (reverse (take at words)));
  after = length (take_while (goes_on m) (drop (at + 1) words));
}
