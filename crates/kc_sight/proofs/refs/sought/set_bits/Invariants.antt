use Rattle.std.proofs.Common.{◌≡◌, length, take, true, vec_len}
use Rattle.std.specs.List.{list_all}
use Rattle.kc_sight.specs.Refs.Writings.{has_bit}
use Rattle.kc_sight.proofs.refs.sought.set_bits.Given as goal

-- the filter has the numbers so far
abbrev pub invariant-loop-random : goal.invariant-loop-random
invariant-loop-random l = record {
  size : vec_len l.filter ≡ 65536;
  law : list_all (has_bit l.filter.items) (take l.random-index l.randoms) ≡ true;
}
