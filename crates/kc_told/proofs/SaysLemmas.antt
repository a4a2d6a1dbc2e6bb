-- What a word says by itself, and how far that goes on.
use Rattle.std.proofs.Common.{◌≡◌, ℕ, List, ◌++◌, Option, Result, Ok, Err, OnOk, ap, ◌∙◌, append_assoc}
use Rattle.kc_memory.specs.declared.words.VWord.{VWord}
use Rattle.kc_memory.specs.Stopped.{Stopped}
use Rattle.kc_sight.specs.declared.meaning.Meaning.{Meaning}
use Rattle.kc_sight.specs.Meanings.{meaning}
use Rattle.kc_sight.specs.Nearest.{SymbolAt}
use Rattle.kc_told.specs.SaysText.{says_line, says_lines}
use Rattle.kc_told.specs.Text.{span_line}

pub says_made : {A E : Type 0} (r : Result A E) (symbols : ℕ → Option SymbolAt) (m : Meaning) (va value : ℕ) (page : List (Result VWord Stopped)) (old mid new : List ℕ)
    → m ≡ meaning va value → mid ≡ old ++ says_line symbols m value → OnOk r (new ≡ mid ++ span_line va m page) → OnOk r (new ≡ old ++ says_lines symbols va value page)
says_made (Err e) symbols m va value page old mid new same first second = tt
says_made (Ok x) symbols m va value page old mid new same first second =
    second ∙ ap (λ l. l ++ span_line va m page) first ∙ append_assoc old (says_line symbols m value) (span_line va m page)
    ∙ ap (λ n. old ++ (says_line symbols n value ++ span_line va n page)) same
