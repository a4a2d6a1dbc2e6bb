-- The page of the top page table (the kernel's kdump documents, "VMCOREINFO").
use Rattle.std.specs.Prelude.{ℕ, ◌+◌, ◌-◌, ◌^◌, ◌<◌, ◌≤◌, ◌/◌, ◌&&◌, nat_le, nat_lt, List, [], ◌∷◌, codes, Option, Some, None, option_and_then, option_map, if◌then◌else◌}
use Rattle.std.specs.Result.{result_ok}
use Rattle.kc_word.specs.Hex.{hex_number}
use Rattle.kc_kdump.specs.declared.run.PageRun.{PageRun}
use Rattle.kc_notes.specs.Info.{info_of}
use Rattle.kc_notes.specs.Values.{value_of}
use Rattle.kc_plain.specs.declared.root.Root.{Root}

-- the number of a page frame's page among those in the dump, where so many come before these runs
unfoldable pub number_from : ℕ → ℕ → List PageRun → Option ℕ
number_from frame before [] = None
number_from frame before (run ∷ runs) =
    if nat_le run.first frame && nat_lt (frame - run.first) run.dumped then Some (before + (frame - run.first))
    else number_from frame (before + run.dumped) runs

-- its virtual address by the lines of the notes
unfoldable pub root_address : List ℕ → Option ℕ
root_address notes = option_and_then hex_number (value_of (codes "SYMBOL(swapper_pg_dir)") notes)

-- the page with this physical address
abbrev pub root_at : List PageRun → ℕ → ℕ → Option Root
root_at runs physical address =
    option_map (λ number. record { address = address; physical = physical; number = number }) (number_from (physical / 4096) 0 runs)

-- the page of the top page table, where the lines of the notes say which it is, and it is in the dump
unfoldable pub root_of : List PageRun → List ℕ → Option Root
root_of runs notes =
    option_and_then (λ info. option_and_then (λ address. root_at runs info.table address) (root_address notes)) (result_ok (info_of notes))

-- a page of physical memory, and one of so many in the dump
pub record IsPage (pages : ℕ) (root : Root) : Type 0 where
  pub below : root.physical + 4096 ≤ 2 ^ 64
  pub number : root.number < pages
