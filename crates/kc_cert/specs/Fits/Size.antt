-- How large a certificate is.
use Rattle.std.specs.Prelude.{ℕ, ◌+◌, List, [], ◌∷◌}
use Rattle.kc_steps.specs.Chains as chains
use Rattle.kc_cert.specs.declared.text.certificate.CertStep.{CertStep}

-- lists and their numbers
abbrev pub lists_size : List (List ℕ) → ℕ
lists_size lists = chains.size lists

-- steps, their lists and the numbers of these
abbrev pub size : List CertStep → ℕ
size [] = 0
size (s ∷ steps) = 1 + lists_size s.lists + size steps
