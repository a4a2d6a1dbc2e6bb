use Rattle.std.proofs.Common.{◌≡◌, ◌++◌, drop}
use Rattle.kc_plan.specs.Plans.{children}
use Rattle.kc_plan.proofs.read.children.Given as goal

-- the numbers so far, and then those of the links that are left
abbrev pub invariant-loop-link : goal.invariant-loop-link
invariant-loop-link l = l.numbers ++ children (drop l.link-index l.links) l.number ≡ children l.links l.number
