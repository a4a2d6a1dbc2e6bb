-- Two words that are read and taken, and then tested.
use Rattle.std.proofs.Common.{◌≡◌, ℕ, Bool, false, List, ◌++◌, Option}
use Rattle.std.specs.Prelude.{Result, Ok}
use Rattle.kc_memory.specs.declared.words.VWord.{VWord}
use Rattle.kc_memory.specs.Stopped.{Stopped}
use Rattle.kc_found.specs.declared.asked.Asked.{Asked}
use Rattle.kc_found.specs.Chains.{from_there}
use Rattle.kc_found.specs.Nodes.{readable, two_taken}
use Rattle.kc_found.specs.Trials.{Trial, broken_if}
use Rattle.kc_found.specs.Violations.{Violation}

-- two words are read and taken, and then tested
abbrev pub tested_pair : Asked → Option VWord → Result (VWord × VWord) Stopped → (VWord × VWord → Bool) → (VWord × VWord → Violation) → List (Trial ℕ)
tested_pair asked led there test broken = two_taken asked led there ++ from_there (readable there) (λ p. broken_if (test p) (broken p))

-- the pair of a site that is good
pub record GoodPair (there : Result (VWord × VWord) Stopped) (test : VWord × VWord → Bool) : Type 0 where
  pub pair : VWord × VWord
  pub read : there ≡ Ok pair
  pub passed : test pair ≡ false
