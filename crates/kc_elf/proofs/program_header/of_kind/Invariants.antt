use Rattle.std.proofs.Common.{◌≡◌, ◌≤◌, ◌++◌, drop, vec_len}
use Rattle.kc_elf.specs.Headers.{of_kind}
use Rattle.kc_elf.proofs.program_header.of_kind.Given as goal

-- what is found, and what is left to find
abbrev pub invariant-loop-header : goal.invariant-loop-header
invariant-loop-header l = record {
  few : vec_len l.found ≤ l.header-index;
  whole : l.found.items ++ of_kind l.kind (drop l.header-index l.headers) ≡ of_kind l.kind l.headers;
}
