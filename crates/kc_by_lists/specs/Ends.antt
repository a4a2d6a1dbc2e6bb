-- How walks by given lists end.
use Rattle.std.specs.Prelude.{ℕ}
use Rattle.kc_memory.specs.declared.rule.Rule.{Rule}
use Rattle.kc_found.specs.declared.asked.Asked.{Asked}
use Rattle.kc_found.specs.declared.found.WalkStop.{WalkStop}
use Rattle.kc_found.specs.declared.found.WalkStop.TheVariants as ends
use Rattle.kc_steps.specs.Given.{misfit}
use Rattle.kc_found.specs.declared.test.TestStop.{TestStop}
use Rattle.kc_found.specs.declared.test.TestStop.TheVariants.{Unfit, Fault, NoMemory}

-- at a chain whose test halted
abbrev pub ended : Asked → Rule → ℕ → TestStop → WalkStop
ended asked rule at Unfit = ends.Broken (misfit asked rule at)
ended asked rule at Fault = ends.Fault
ended asked rule at NoMemory = ends.NoMemory
