-- The lines of the failures that aren't the files'.
use Rattle.std.specs.Prelude.{ℕ, List, codes}

abbrev pub store_failed : List ℕ
store_failed = codes "store failed\n"

abbrev pub sink_failed : List ℕ
sink_failed = codes "sink failed\n"

abbrev pub memory_refused : List ℕ
memory_refused = codes "memory refused\n"
