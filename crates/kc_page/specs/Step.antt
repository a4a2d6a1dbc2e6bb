-- A step of the walk, in the code's own types.
use Rattle.std.specs.Prelude.{◌≡◌, ℕ, ◌%◌, ◌^◌, ◌<◌, Option, Some, None, Result, Ok, Err, ⊤}
use Rattle.kc_word.specs.declared.plain.Pa.{Pa}
use Rattle.kc_memory.specs.declared.space.Stop.{Stop}
use Rattle.kc_memory.specs.declared.space.Stop.TheVariants.{Miss, Fault}
use Rattle.kc_memory.specs.Stopped.{Stopped}
use Rattle.kc_memory.specs.Image.{Physical}
use Rattle.kc_memory.specs.Translation.{Way}
use Rattle.kc_memory.specs.Translation as words
use Rattle.kc_page.specs.declared.entry.Step.{Step}
use Rattle.kc_page.specs.declared.entry.Step.TheVariants.{Table, Large}

abbrev pub way_of : Step → Way
way_of (Table table) = words.Table table
way_of (Large pa) = words.Large pa

abbrev pub IsStep : Way → Step → Type 0
IsStep way step = way ≡ way_of step

-- a table is one that can be, and a place has the address's low 12 bits
abbrev pub Keeps : ℕ → Step → Type 0
Keeps va (Table table) = (table % 4096 ≡ 0) × (table < 2 ^ 52)
Keeps va (Large pa) = (pa % 4096 ≡ va % 4096) × (pa < 2 ^ 52)

-- short of a fault, an answer is this one
abbrev pub IsJudged : Result Way Stopped → Result Step Stop → Type 0
IsJudged truth (Ok step) = truth ≡ Ok (way_of step)
IsJudged truth (Err (Miss s)) = truth ≡ Err s
IsJudged truth (Err Fault) = ⊤

-- the answer is the one that a definition gives of physical memory, where it is told
abbrev pub StepsAs : (Physical → Result Way Stopped) → Option Physical → Result Step Stop → Type 0
StepsAs truth None r = ⊤
StepsAs truth (Some physical) r = IsJudged (truth physical) r

-- the answer is the physical address that a definition gives, where physical memory is told
abbrev pub IsWalked : (Physical → Result ℕ Stopped) → Option Physical → Result Pa Stop → Type 0
IsWalked truth None r = ⊤
IsWalked truth (Some physical) (Ok pa) = truth physical ≡ Ok pa.0
IsWalked truth (Some physical) (Err (Miss s)) = truth physical ≡ Err s
IsWalked truth (Some physical) (Err Fault) = ⊤
