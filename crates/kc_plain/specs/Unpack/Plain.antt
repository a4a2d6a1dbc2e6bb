-- The plain core file that stands for a compressed dump.
use Rattle.std.specs.Prelude.{ℕ, List, ◌++◌, Result, Ok}
use Rattle.kc_kdump.specs.declared.fault.KdumpFault.{KdumpFault}
use Rattle.kc_kdump.specs.declared.layout.Layout.{Layout}
use Rattle.kc_kdump.specs.Dump.{Dump, ◌>>=◌, descriptor_at, dump_of}
use Rattle.kc_kdump.specs.Runs.{page_count}
use Rattle.kc_plain.specs.Head.{head_of}
use Rattle.kc_plain.specs.Pages.{pages}
use Rattle.kc_plain.specs.Unpack.Unpacked.{page_of, page_or_zeros}

-- The page with a number, among those in the dump. One that can't be unpacked stands as zeros here, and no reader gives them: to
-- read them is a failure.
abbrev pub page_at : Layout → List ℕ → ℕ → List ℕ
page_at layout bytes i = page_or_zeros (page_of bytes (descriptor_at layout bytes i))

-- what stands before the pages, and the pages in order
abbrev pub plain_by : List ℕ → Dump → List ℕ
plain_by bytes dump = head_of dump.runs dump.notes ++ pages (page_at dump.layout bytes) (page_count dump.runs)

-- the plain core file
abbrev pub plain : List ℕ → Result (List ℕ) KdumpFault
plain bytes = do
  dump ← dump_of bytes
  Ok (plain_by bytes dump)
