use Rattle.std.proofs.Common.{◌-◌, ◌≤◌, vec_len, All}
use Rattle.kc_plain_store.specs.Kept.{IsEmpty}
use Rattle.kc_plain_store.proofs.keeping.new_places.Given as goal

-- each place is empty
abbrev pub invariant-loop-alloc : goal.invariant-loop-alloc
invariant-loop-alloc l = record {
  empty : All IsEmpty l.places.items;
  few : vec_len l.places ≤ 256;
}

abbrev pub decreases-loop-alloc : goal.decreases-loop-alloc
decreases-loop-alloc l = 256 - vec_len l.places
