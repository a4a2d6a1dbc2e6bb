use Rattle.std.proofs.Common.{map}
use Rattle.kc_layout.proofs.IndexLemmas.{Holds}
use Rattle.kc_layout.proofs.names.Names.new.Given as goal

-- the buckets hold the types up to the index
abbrev pub invariant-loop-index : goal.invariant-loop-index
invariant-loop-index l = Holds l.btf l.index (map (λ v. v.items) l.buckets.items)
