use Rattle.std.proofs.Common.{◌≡◌, ◌-◌, nat_eq, is_some}
use Rattle.kc_layout.specs.Path.{steps_from, path_steps}
use Rattle.kc_layout.proofs.path.is_path.Given as goal

-- the text that is left goes on as the path does
abbrev pub invariant-loop-taken : goal.invariant-loop-taken
invariant-loop-taken l = is_some (steps_from (256 - l.taken) (nat_eq l.taken 0) l.rest) ≡ is_some (path_steps l.path)
