-- The address of a symbol, row by row.
use Rattle.std.proofs.Common.{ℕ, List, map, Option, Some, None, Result}
use Rattle.kc_syms.specs.declared.fault.SymFault.{SymFault}
use Rattle.kc_syms.specs.Addresses.{agreed, another, at_run, common_of}

-- the address, where the rows so far have this one or none, and rows that list these follow
abbrev pub common_after : ℕ → Option ℕ → List ℕ → Result ℕ SymFault
common_after kaslr None listed = common_of kaslr listed
common_after kaslr (Some first) listed = agreed first (another first (map (at_run kaslr) listed))
