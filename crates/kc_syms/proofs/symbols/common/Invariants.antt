use Rattle.std.proofs.Common.{◌≡◌, drop, map}
use Rattle.kc_syms.specs.Addresses.{common_of}
use Rattle.kc_syms.specs.Rows.{addresses}
use Rattle.kc_syms.specs.Views.{row_text}
use Rattle.kc_syms.proofs.AddressLemmas.{common_after}
use Rattle.kc_syms.proofs.symbols.common.Given as goal

-- the rows so far agree, and the rows that are left follow them
abbrev pub invariant-loop-row : goal.invariant-loop-row
invariant-loop-row l =
    common_after l.kaslr l.found (addresses l.name (map row_text (drop l.row-index l.rows)))
    ≡ common_of l.kaslr (addresses l.name (map row_text l.rows))
