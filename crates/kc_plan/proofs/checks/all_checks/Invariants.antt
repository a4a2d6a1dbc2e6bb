use Rattle.std.proofs.Common.{◌≡◌, [], drop, length, map}
use Rattle.kc_plan.specs.CheckTexts.{all_checks_for}
use Rattle.kc_plan.specs.Inside.{ChecksInside}
use Rattle.kc_plan.specs.Planned.{check_seen}
use Rattle.kc_plan.specs.Views.{text}
use Rattle.kc_plan.proofs.checks.all_checks.Given as goal

-- the checks so far, and then those of the texts that are left
abbrev pub invariant-loop-words : goal.invariant-loop-words
invariant-loop-words l =
    (all_checks_for l.btf l.audit l.element (map check_seen l.checks) (map text (drop l.words-index l.texts)) ≡ all_checks_for l.btf l.audit l.element [] (map text l.texts))
    × (length l.checks ≡ l.words-index)
    × ChecksInside (length l.btf.records) l.checks
