-- What a search begins with.
use Rattle.std.specs.Prelude.{◌≡◌, ⊤, ℕ, true, List, Option, Some, None, Result, Ok, Err}
use Rattle.kc_command.specs.declared.halt.Halt.{Halt}
use Rattle.kc_command.specs.Kernels.{KernelAt}
use Rattle.kc_command.specs.Made.{Halts}
use Rattle.kc_why.specs.declared.files.Aim.{Aim}
use Rattle.kc_why.specs.declared.searching.Hunt.{Hunt}
use Rattle.kc_why.specs.Searching.{sought_by}
use Rattle.kc_why.specs.Why.{Finds, found_in}

-- the dump is the same after its memory was asked, its segments lie in it still, and what is found in them is what is made of its bytes
pub record Begins (aim : Aim) (kernel : KernelAt) (bytes : List ℕ) (new : Option (List ℕ)) (h : Hunt) : Type 0 where
  pub same : h.same ≡ true
  pub here : new ≡ Some bytes
  pub sought : h.sought ≡ sought_by aim.value h.told
  pub made : found_in bytes aim kernel ≡ Some (Ok (Finds (record { bytes = bytes; segments = kernel.segments; keys = h.told; value = aim.value; progress = aim.progress })))

-- a search begins, or the map is refused
abbrev pub Prepares : Aim → KernelAt → List ℕ → Option (List ℕ) → Result Hunt Halt → Type 0
Prepares aim kernel bytes new (Ok h) = Begins aim kernel bytes new h
Prepares aim kernel bytes new (Err halt) = Halts (found_in bytes aim kernel) halt

abbrev pub IsReady : Aim → KernelAt → Option (List ℕ) → Option (List ℕ) → Result Hunt Halt → Type 0
IsReady aim kernel None new r = ⊤
IsReady aim kernel (Some bytes) new r = Prepares aim kernel bytes new r
