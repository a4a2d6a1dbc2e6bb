use Rattle.std.proofs.Common.{◌≡◌, ◌+◌, ◌-◌, ◌*◌}
use Rattle.kc_btf.specs.Numbers.{words}
use Rattle.kc_btf.specs.Records.{words_inside}
use Rattle.kc_btf.proofs.inside.numbers_inside.Given as goal

-- what the numbers that are left decide
abbrev pub invariant-loop-index : goal.invariant-loop-index
invariant-loop-index l =
    words_inside l.limits.strings l.limits.types l.kind l.index (words (l.count - l.index) l.bytes (l.at + 4 * l.index))
    ≡ words_inside l.limits.strings l.limits.types l.kind 0 (words l.count l.bytes l.at)
