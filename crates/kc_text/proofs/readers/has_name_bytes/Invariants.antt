use Rattle.std.proofs.Common.{◌≡◌, drop}
use Rattle.kc_text.specs.Readers.{has_name_bytes}
use Rattle.kc_text.proofs.readers.has_name_bytes.Given as goal

abbrev pub invariant-loop-c : goal.invariant-loop-c
invariant-loop-c l = has_name_bytes (drop l.c-index l.name) ≡ has_name_bytes l.name
