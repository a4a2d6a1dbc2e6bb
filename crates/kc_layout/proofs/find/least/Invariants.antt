use Rattle.std.proofs.Common.{◌≡◌, ℕ, ◌<◌, false, get_or}
use Rattle.kc_btf.specs.Records.{Record}
use Rattle.kc_layout.specs.Find.{is_named}
use Rattle.kc_layout.proofs.find.least.Given as goal

-- no record before the index is named so
abbrev pub invariant-loop-index : goal.invariant-loop-index
invariant-loop-index l = (k : ℕ) (d : Record) → k < l.index → is_named l.btf l.name l.wanted (get_or l.btf.records k d) ≡ false
