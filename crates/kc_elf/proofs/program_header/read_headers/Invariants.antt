use Rattle.std.proofs.Common.{◌≡◌, ◌-◌, ◌*◌, ◌≤◌, ◌++◌, length, vec_len}
use Rattle.kc_elf.specs.Headers.{headers}
use Rattle.kc_elf.proofs.program_header.read_headers.Given as goal

-- what is found, and the headers that the rest spells
abbrev pub invariant-loop-rest : goal.invariant-loop-rest
invariant-loop-rest l = record {
  enough : 56 * (l.count - vec_len l.found) ≤ length l.rest;
  few : vec_len l.found ≤ l.count;
  whole : l.found.items ++ headers (l.count - vec_len l.found) l.rest ≡ headers l.count l.table;
}

abbrev pub decreases-loop-rest : goal.decreases-loop-rest
decreases-loop-rest l = l.count - vec_len l.found
