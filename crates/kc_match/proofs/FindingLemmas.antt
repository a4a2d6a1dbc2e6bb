-- What is found of the lines so far, and of one more.
use Rattle.std.proofs.Common.{◌≡◌, ℕ, List, [], ◌∷◌, ◌++◌, map, Option, Some, None, option_map, sym, ap, ◌∙◌}
use Rattle.std.specs.Borrow.{Bor}
use Rattle.std.specs.List.{cons_option}
use Rattle.std.proofs.lemmas.List.{append-nil, map-append}
use Rattle.std.proofs.lemmas.List.Elements.{filter_map-append}
use Rattle.kc_match.specs.declared.finding.Finding.{Finding as CodeFinding}
use Rattle.kc_match.specs.Facts.{Fact, fact_in}
use Rattle.kc_match.specs.Findings.{Finding, findings, found_in}
use Rattle.kc_match.specs.Outcomes.{Compared, outcome}
use Rattle.kc_match.specs.Views.{finding_view}

abbrev seen : List (Bor (List ℕ)) → List (List ℕ)
seen lines = map (λ (line : Bor (List ℕ)). line.now) lines

-- what one line adds, by what it states
abbrev added : Compared → List ℕ → Option Fact → List Finding
added kernel line fact = cons_option (option_map (λ f. record { line = line; outcome = outcome kernel f }) fact) []

findings-more : (kernel : Compared) (lines : List (Bor (List ℕ))) (line : Bor (List ℕ)) (fact : Option Fact) → fact_in line.now ≡ fact
    → findings kernel (seen (lines ++ line ∷ [])) ≡ findings kernel (seen lines) ++ added kernel line.now fact
findings-more kernel lines line fact is =
    ap (findings kernel) (map-append (λ (line : Bor (List ℕ)). line.now) lines (line ∷ []))
    ∙ filter_map-append (found_in kernel) (seen lines) (line.now ∷ [])
    ∙ ap (λ f. findings kernel (seen lines) ++ added kernel line.now f) is

-- a line that states something
pub found_more : (kernel : Compared) (lines : List (Bor (List ℕ))) (line : Bor (List ℕ)) (fact : Fact) (old new : List CodeFinding) (more : CodeFinding)
    → map finding_view old ≡ findings kernel (seen lines) → fact_in line.now ≡ Some fact
    → finding_view more ≡ record { line = line.now; outcome = outcome kernel fact } → new ≡ old ++ more ∷ []
    → map finding_view new ≡ findings kernel (seen (lines ++ line ∷ []))
found_more kernel lines line fact old new more so_far is one pushed =
    ap (map finding_view) pushed ∙ map-append finding_view old (more ∷ [])
    ∙ ap (λ fs. fs ++ finding_view more ∷ []) so_far ∙ ap (λ f. findings kernel (seen lines) ++ f ∷ []) one
    ∙ sym (findings-more kernel lines line (Some fact) is)

-- and another line
pub found_none : (kernel : Compared) (lines : List (Bor (List ℕ))) (line : Bor (List ℕ)) (found : List CodeFinding)
    → map finding_view found ≡ findings kernel (seen lines) → fact_in line.now ≡ None
    → map finding_view found ≡ findings kernel (seen (lines ++ line ∷ []))
found_none kernel lines line found so_far is =
    so_far ∙ sym (findings-more kernel lines line None is ∙ append-nil (findings kernel (seen lines)))
