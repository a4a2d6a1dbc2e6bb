use Rattle.std.proofs.Common.{◌≡◌, take}
use Rattle.kc_plan.specs.Checks.{words_of}
use Rattle.kc_run.proofs.checks.words_of.Given as goal

abbrev pub invariant-loop-i : goal.invariant-loop-i
invariant-loop-i l = l.places ≡ words_of (take l.i l.numbers)
