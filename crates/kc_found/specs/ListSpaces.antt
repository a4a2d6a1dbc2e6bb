-- A memory of listed words.
use Rattle.std.specs.Prelude.{ℕ, nat_eq, List, find, Option, Some, None, Result, Ok, Err}
use Rattle.kc_memory.specs.declared.rule.Rule.TheVariants.{M6}
use Rattle.kc_memory.specs.declared.space.Stop.{Stop}
use Rattle.kc_memory.specs.declared.space.Stop.TheVariants.{Miss}
use Rattle.kc_memory.specs.declared.words.VWord.{VWord}
use Rattle.kc_found.specs.declared.list_space.ListSpace.{ListSpace}

-- its words, in their order
abbrev pub words_in : ListSpace → List VWord
words_in space = space.words.items

-- the first of these words at a virtual address
abbrev pub first_at : List VWord → ℕ → Option VWord
first_at words va = find (λ (w : VWord). nat_eq w.va va) words

-- a word, or where there is none M6 at this address
abbrev pub or_absent : ℕ → Option VWord → Result VWord Stop
or_absent va (Some w) = Ok w
or_absent va None = Err (Miss (record { va = va; rule = M6; level = 0; pa = 0; entry = None }))
