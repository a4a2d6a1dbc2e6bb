-- What the plain core file holds by the definition of core files.
use Rattle.std.specs.Prelude.{◌≡◌, ℕ, ◌+◌, ◌*◌, ◌≤◌, List, [], ◌∷◌, ◌++◌, Option, Some, None, Ok}
use Rattle.kc_word.specs.declared.plain.Segment.{Segment}
use Rattle.kc_elf.specs.CoreFile.{core}
use Rattle.kc_kdump.specs.declared.run.PageRun.{PageRun}
use Rattle.kc_plain.specs.declared.root.Root.{Root}
use Rattle.kc_plain.specs.Head.{head_by, header_count, start}
use Rattle.kc_plain.specs.Pages.{AreWhole, pages}

-- The segments of runs whose pages begin at a file offset: the pages that are in the dump have their bytes there, one after another, and those
-- that were left out are memory without bytes.
unfoldable pub segments_of : ℕ → List PageRun → List Segment
segments_of offset [] = []
segments_of offset (run ∷ runs) =
    record { paddr = 4096 * run.first; filesz = 4096 * run.dumped; memsz = 4096 * (run.dumped + run.left); offset = offset }
    ∷ segments_of (offset + 4096 * run.dumped) runs

-- the top page table's page once more
abbrev pub root_segments : ℕ → Option Root → List Segment
root_segments first None = []
root_segments first (Some root) = record { paddr = root.physical; filesz = 4096; memsz = 4096; offset = first + 4096 * root.number } ∷ []

-- The plain core file of runs, of so many pages together, is by the definition of core files one that has these segments and these notes,
-- whatever the pages hold: under each bound on program headers that leaves room for its own.
abbrev pub ReadsBack : List PageRun → Option Root → List ℕ → ℕ → Type 0
ReadsBack runs root notes count =
    (most : ℕ) → header_count runs root ≤ most → (page : ℕ → List ℕ) → AreWhole page
    → core most (head_by runs root notes ++ pages page count)
    ≡ Ok (record { segments = segments_of (start runs root notes) runs ++ root_segments (start runs root notes) root; notes = notes ∷ [] })
