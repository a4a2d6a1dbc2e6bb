use Rattle.std.proofs.Common.{◌≡◌, ◌+◌, map, drop}
use Rattle.kc_btf.specs.Btf.{outside_fault}
use Rattle.kc_btf.proofs.inside.check_inside.Given as goal

-- what the records that are left decide
abbrev pub invariant-loop-place : goal.invariant-loop-place
invariant-loop-place l =
    outside_fault l.bytes l.limits.strings l.limits.types (map (λ place. l.types + place) (drop l.place-index l.table))
    ≡ outside_fault l.bytes l.limits.strings l.limits.types (map (λ place. l.types + place) l.table)
