use Rattle.std.proofs.Common.{◌≡◌, ◌+◌, ◌*◌, ◌≤◌, length}
use Rattle.kc_btf.specs.declared.kind.Kind.TheVariants.{Enum}
use Rattle.kc_btf.specs.Numbers.{words}
use Rattle.kc_btf.specs.Records.{words_inside}
use Rattle.kc_btf.proofs.inside.values_inside.Given as goal

-- what the items that are left decide
abbrev pub invariant-loop-left : goal.invariant-loop-left
invariant-loop-left l = record {
  within : l.place + 8 * l.left ≤ length l.bytes;
  same : words_inside l.limits.strings l.limits.types Enum 0 (words (2 * l.left) l.bytes l.place) ≡ words_inside l.limits.strings l.limits.types Enum 0 (words (2 * l.count) l.bytes l.at);
}

abbrev pub decreases-loop-left : goal.decreases-loop-left
decreases-loop-left l = l.left
