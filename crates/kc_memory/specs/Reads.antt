-- How many words of the dump are looked at for a translation, and for a word at a virtual address.
use Rattle.std.specs.Prelude.{◌≡◌, ℕ, zero, suc, ◌+◌, ◌%◌, ◌≤◌, if◌then◌else◌, nat_eq, Option, Some, None, Result, Ok, Err, ⊤}
use Rattle.kc_memory.specs.declared.space.Stop.{Stop}
use Rattle.kc_memory.specs.declared.space.Stop.TheVariants.{Miss, Fault}
use Rattle.kc_memory.specs.Stopped.{Stopped}
use Rattle.kc_memory.specs.Image.{Physical, Image}
use Rattle.kc_memory.specs.Translation.{Way, Table, Large, entered, is_canonical, levels, translated}

-- after an entry, those of the tables below it: none where it stops the translation or maps a large page
abbrev pub below_entry : Result Way Stopped → (ℕ → ℕ) → ℕ
below_entry (Ok (Table table)) entries = entries table
below_entry (Ok (Large pa)) entries = 0
below_entry (Err s) entries = 0

-- the entries that a translation looks at, from a table of a level down
unfoldable pub entries_read : Physical → ℕ → ℕ → ℕ → ℕ → ℕ
entries_read physical mask va zero table = 0
entries_read physical mask va (suc level) table =
    1 + below_entry (entered physical mask va (suc level) table) (entries_read physical mask va level)

-- the same from the top table down: none where the address isn't canonical
abbrev pub walk_reads : Image → ℕ → ℕ
walk_reads image va =
    if is_canonical image.paging va then entries_read image.physical image.paging.sme va (levels image.paging) image.paging.table
    else 0

-- the word itself, unless the translation stops
abbrev pub last_read : Result ℕ Stopped → ℕ
last_read (Ok pa) = 1
last_read (Err s) = 0

-- the entries and the word itself: none where the address isn't a multiple of 8
unfoldable pub word_reads : Image → ℕ → ℕ
word_reads image va = if nat_eq (va % 8) 0 then walk_reads image va + last_read (translated image va) else 0

-- where the dump is told, an answer takes exactly so many steps, and a failure no more
abbrev pub StepsAre : {I A : Type 0} → (I → ℕ) → Option I → Result A Stop → ℕ → ℕ → Type 0
StepsAre count None r before after = ⊤
StepsAre count (Some image) (Ok a) before after = after ≡ before + count image
StepsAre count (Some image) (Err (Miss s)) before after = after ≡ before + count image
StepsAre count (Some image) (Err Fault) before after = after ≤ before + count image
