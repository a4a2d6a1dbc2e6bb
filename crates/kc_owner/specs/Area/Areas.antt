-- In which areas an address lies.
use Rattle.std.specs.Prelude.{ℕ, Bool, true, false, Option, Some, None, Result, Ok}
use Rattle.kc_memory.specs.Image.{Image}
use Rattle.kc_found.specs.Violations.{Violation}
use Rattle.kc_owner.specs.declared.area.areas.Areas.{Areas}
use Rattle.kc_owner.specs.declared.area.modules.InModule.{InModule}
use Rattle.kc_owner.specs.declared.area.processors.InProcessor.{InProcessor}
use Rattle.kc_owner.specs.declared.area.stacks.InStack.{InStack}
use Rattle.kc_owner.specs.declared.area.shape.AreaShape.{AreaShape}
use Rattle.kc_owner.specs.declared.area.shape.ModuleShape.{ModuleShape}
use Rattle.kc_owner.specs.declared.area.shape.ProcessorShape.{ProcessorShape}
use Rattle.kc_owner.specs.declared.area.shape.StackShape.{StackShape}
use Rattle.kc_owner.specs.Area.Modules.{module_at}
use Rattle.kc_owner.specs.Area.Processors.{processor_at}
use Rattle.kc_owner.specs.Area.Stacks.{stack_at}

-- each where the kernel has what tells it
abbrev pub module_of : Image → Option ModuleShape → ℕ → Result (Option InModule) Violation
module_of image None address = Ok None
module_of image (Some shape) address = module_at image shape address

abbrev pub processor_of : Image → Option ProcessorShape → ℕ → Result (Option InProcessor) Violation
processor_of image None address = Ok None
processor_of image (Some shape) address = processor_at image shape address

-- stacks, where they are asked for
abbrev pub stack_of : Image → Bool → Option StackShape → ℕ → Result (Option InStack) Violation
stack_of image stacks None address = Ok None
stack_of image true (Some shape) address = stack_at image shape address
stack_of image false (Some shape) address = Ok None

abbrev pub areas : Image → AreaShape → Bool → ℕ → Areas
areas image shape stacks address = record {
  module_found = module_of image shape.modules address;
  processor_found = processor_of image shape.processors address;
  stack_found = stack_of image stacks shape.stacks address;
}
