-- The entries of the page tables on the way to a virtual address.
-- Source: Intel SDM volume 3A, chapter "Paging": four-level and five-level paging.
use Rattle.std.specs.Prelude.{ℕ, ◌==◌, zero, suc, ◌^◌, if◌then◌else◌, List, [], ◌∷◌, Option, Some, None, Result, Ok, Err}
use Rattle.std.specs.Option.{option_map_or}
use Rattle.kc_memory.specs.declared.words.PWord.{PWord}
use Rattle.kc_memory.specs.Image.{Physical, Image, pword}
use Rattle.kc_memory.specs.Stopped.{Stopped}
use Rattle.kc_memory.specs.Translation.{Way, Table, Large, entered, entry_address, is_canonical, levels}
use Rattle.kc_sight.specs.declared.entries.TableEntry.{TableEntry}

-- the table of the level below, where an entry leads to one
abbrev pub table_in : Result Way Stopped → Option ℕ
table_in (Ok (Table table)) = Some table
table_in (Ok (Large pa)) = None
table_in (Err s) = None

-- an entry and those below it, where the dump has it
abbrev pub entry_before : ℕ → ℕ → Option PWord → List TableEntry → List TableEntry
entry_before level pa None rest = []
entry_before level pa (Some word) rest = record { level = level; pa = pa; word = word } ∷ rest

-- from a table of a level down to the entry that maps the page or stops the translation
unfoldable pub entries_from : Physical → ℕ → ℕ → ℕ → ℕ → List TableEntry
entries_from physical mask va zero table = []
entries_from physical mask va (suc level) table =
    entry_before (suc level) (entry_address (suc level) table va) (pword physical (entry_address (suc level) table va))
    (option_map_or (entries_from physical mask va level) (table_in (entered physical mask va (suc level) table)) [])

-- from the top table down: none where the address isn't canonical
abbrev pub entries : Image → ℕ → List TableEntry
entries image va =
    if is_canonical image.paging va then entries_from image.physical image.paging.sme va (levels image.paging) image.paging.table
    else []

-- the number of bytes of the page that an entry of a level maps, where it can map one
abbrev pub page_bytes : ℕ → Option ℕ
page_bytes level =
    if level == 1 then Some (2 ^ 12) else (if level == 2 then Some (2 ^ 21) else (if level == 3 then Some (2 ^ 30) else None))
