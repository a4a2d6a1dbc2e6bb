use Rattle.std.proofs.Common.{◌≡◌, ◌<◌, drop}
use Rattle.kc_layout.specs.Names.{chosen}
use Rattle.kc_layout.proofs.names.bucket_of.Given as goal

-- the bytes that are left go on from the bucket so far
abbrev pub invariant-loop-c : goal.invariant-loop-c
invariant-loop-c l = record { below : l.bucket < 8192; left : chosen 0 l.start ≡ chosen l.bucket (drop l.c-index l.start) }
