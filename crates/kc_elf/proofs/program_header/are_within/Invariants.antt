use Rattle.std.proofs.Common.{◌≡◌, ◌+◌, take}
use Rattle.kc_elf.specs.Headers.{byte_sum}
use Rattle.kc_elf.proofs.program_header.are_within.Given as goal

-- what is counted, and what is left of the limit
abbrev pub invariant-loop-segment : goal.invariant-loop-segment
invariant-loop-segment l = l.left + byte_sum (take l.segment-index l.segments) ≡ l.limit
