-- What is found, line by line.
use Rattle.std.specs.Prelude.{ℕ, List, Option, option_map}
use Rattle.std.specs.List.{filter_map}
use Rattle.kc_match.specs.declared.outcome.Outcome.{Outcome}
use Rattle.kc_match.specs.Facts.{fact_in}
use Rattle.kc_match.specs.Outcomes.{Compared, outcome}

-- a line that states something of the kernel, and what comes of it
pub record Finding : Type 0 where
  pub line : List ℕ
  pub outcome : Outcome

abbrev pub found_in : Compared → List ℕ → Option Finding
found_in kernel line = option_map (λ fact. record { line = line; outcome = outcome kernel fact }) (fact_in line)

-- what is found of lines, in their order
abbrev pub findings : Compared → List (List ℕ) → List Finding
findings kernel lines = filter_map (found_in kernel) lines
