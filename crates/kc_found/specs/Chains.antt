-- Chains: walks whose sites follow one another, each from what the one before holds.
use Rattle.std.specs.Prelude.{ℕ, zero, suc, ◌+◌, Bool, List, [], ◌∷◌, ◌++◌, Option, Some, None, if◌then◌else◌, Result}
use Rattle.kc_memory.specs.Image.{Physical}
use Rattle.kc_memory.specs.Held.{word_count}
use Rattle.kc_found.specs.Trials.{Trial, Meet, judged}
use Rattle.kc_found.specs.Violations.{Violation}

-- A chain by what leads to its sites.
pub record ChainOf (S : Type 0) : Type 0 where
  -- what is tried at the head, where the chain has one
  pub head : List (Trial ℕ)
  -- what leads to the first site after the head, where the head can be read
  pub start : Option S
  -- whether the chain ends there
  pub ends : S → Bool
  -- what is tried at the end
  pub last : S → List (Trial ℕ)
  -- what is tried at the site that it leads to
  pub site : S → List (Trial ℕ)
  -- the address of that site
  pub element : S → ℕ
  -- what leads to the next site, where this one can be read
  pub next : S → Option S

-- what is tried further on, where something leads there
abbrev pub from_there : {S X : Type 0} → Option S → (S → List (Trial X)) → List (Trial X)
from_there None go = []
from_there (Some s) go = go s

-- the trials of at most so many sites
unfoldable pub chain_trials : {S : Type 0} → ChainOf S → ℕ → S → List (Trial ℕ)
chain_trials k zero s = []
chain_trials k (suc left) s =
    if k.ends s then k.last s else (k.site s ++ from_there (k.next s) (λ t. Meet (k.element s) ∷ chain_trials k left t))

-- the trials of the head and of at most so many sites after it
abbrev pub chain_sites : {S : Type 0} → ChainOf S → ℕ → List (Trial ℕ)
chain_sites k left = k.head ++ from_there k.start (chain_trials k left)

-- The addresses of the sites after a chain's head, or its first violation. In a memory of W words W + 1 of them are
-- looked at, or fewer: W + 1 good ones would take more than W words.
abbrev pub chain_walk : {S : Type 0} → Physical → ChainOf S → Result (List ℕ) Violation
chain_walk physical k = judged (chain_sites k (word_count physical + 1))
