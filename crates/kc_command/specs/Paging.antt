-- The page tables of a dump.
use Rattle.std.specs.Prelude.{◌≡◌, ℕ, ◌%◌, ◌^◌, ◌<◌}
use Rattle.kc_word.specs.declared.plain.PageCfg.{PageCfg}
use Rattle.kc_notes.specs.declared.info.Info.{Info}

-- the physical address of a top table
abbrev pub IsTable : ℕ → Type 0
IsTable table = (table % 4096 ≡ 0) × (table < 2 ^ 52)

-- what the notes say
abbrev pub by_info : Info → PageCfg
by_info i = record { table = i.table; five = i.five; sme = i.sme }
