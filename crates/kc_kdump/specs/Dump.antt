-- What a compressed dump holds, over the whole list of its bytes.
use Rattle.std.specs.Prelude.{ℕ, zero, suc, ◌+◌, ◌-◌, ◌*◌, Bool, true, false, not, ◌&&◌, ◌==◌, nat_le, List, length, Result, Ok, Err, if◌then◌else◌}
use Rattle.kc_kdump.specs.declared.descriptor.Descriptor.{Descriptor}
use Rattle.kc_kdump.specs.declared.fault.KdumpFault.{KdumpFault}
use Rattle.kc_kdump.specs.declared.fault.KdumpFault.TheVariants.{K8}
use Rattle.kc_kdump.specs.declared.layout.Layout.{Layout}
use Rattle.kc_kdump.specs.declared.run.PageRun.{PageRun}
use Rattle.kc_kdump.specs.Bytes.{number, part}
use Rattle.kc_kdump.specs.Erased.{joined}
use Rattle.kc_kdump.specs.Frames.{frames_of}
use Rattle.kc_kdump.specs.Header.{layout_of, table_in}
use Rattle.kc_kdump.specs.Runs.{cut_runs, page_count, runs_of}

pub record Dump : Type 0 where
  pub layout : Layout
  pub runs : List PageRun
  -- whether the last page that the second bitmap marks is in the file, and the header doesn't say that pages lack
  pub is_whole : Bool
  -- the bytes of the PT_NOTE segment of the machine's memory image, and the erase info
  pub notes : List ℕ

infixl 10 ◌>>=◌
abbrev pub ◌>>=◌ : {A B : Type 0} → Result A KdumpFault → (A → Result B KdumpFault) → Result B KdumpFault
(Ok x) >>= f = f x
(Err e) >>= f = Err e

-- at most 2^22 runs
abbrev pub few : List PageRun → Result (List PageRun) KdumpFault
few runs = if nat_le (length runs) 4194304 then Ok runs else Err K8

-- the descriptor that 24 bytes spell (diskdump_mod.h: struct page_desc): `offset` at byte 0, `size` at 8, `flags` at 12
abbrev pub descriptor_of : List ℕ → Descriptor
descriptor_of bytes = record { offset = number 8 bytes 0; size = number 4 bytes 8; flags = number 4 bytes 12 }

-- the descriptor of a page that is in the dump, by its number among those
abbrev pub descriptor_at : Layout → List ℕ → ℕ → Descriptor
descriptor_at layout bytes index = descriptor_of (part (table_in layout + 24 * index) 24 bytes)

-- whether the page of a descriptor is inside a file of this size. A descriptor that was never written is zeros.
abbrev pub is_inside : ℕ → Descriptor → Bool
is_inside size descriptor = not (descriptor.offset == 0) && nat_le (descriptor.offset + descriptor.size) size

-- whether the descriptor with a number and its page are inside a file of this size
unfoldable pub is_there : ℕ → Layout → List ℕ → ℕ → Bool
is_there size layout bytes index =
    nat_le (table_in layout + 24 * (index + 1)) size && is_inside size (descriptor_at layout bytes index)

-- the number of the first page, of so many from one on, that isn't there, or that after the last
unfoldable pub there_from : ℕ → Layout → List ℕ → ℕ → ℕ → ℕ
there_from size layout bytes index zero = index
there_from size layout bytes index (suc n) = if is_there size layout bytes index then there_from size layout bytes (index + 1) n else index

-- Whether so many pages are taken to be there: the header doesn't say that the dump is incomplete, and the last page is there.
-- Pages are written in order (makedumpfile, IMPLEMENTATION), but for pages of zeros where these are excluded (-d 1): they share one, which is
-- written first. So a file that was cut passes where its last page is one of zeros, and those past its end are faults then.
unfoldable pub is_whole : ℕ → Layout → List ℕ → ℕ → Bool
is_whole size layout bytes pages =
    if layout.is_cut then false
    else (if pages == 0 then true
    else is_there size layout bytes (pages - 1))

-- how many of so many pages are there: of an incomplete dump those before the first that isn't
abbrev pub there_of : ℕ → Layout → List ℕ → ℕ → ℕ
there_of size layout bytes pages = if is_whole size layout bytes pages then pages else there_from size layout bytes 0 pages

-- What a file of this size holds, or its first fault. Pages that aren't there are as those that were left out.
unfoldable pub dump_in : ℕ → List ℕ → Result Dump KdumpFault
dump_in size bytes = do
  layout ← layout_of size bytes
  runs ← few (runs_of (frames_of layout bytes))
  Ok (record {
    layout = layout;
    runs = cut_runs (there_of size layout bytes (page_count runs)) runs;
    is_whole = is_whole size layout bytes (page_count runs);
    notes = joined (part layout.note_offset layout.note_size bytes) (part layout.erase_offset layout.erase_size bytes);
  })

abbrev pub dump_of : List ℕ → Result Dump KdumpFault
dump_of bytes = dump_in (length bytes) bytes
