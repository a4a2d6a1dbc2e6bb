-- Where reading a virtual address stopped, as plain data.
use Rattle.std.specs.Prelude.{ℕ, Bool, false, ◌&&◌, Option, is_some, is_none, nat_eq, nat_le}
use Rattle.kc_memory.specs.declared.rule.Rule.{Rule}
use Rattle.kc_memory.specs.declared.rule.Rule.TheVariants.{M1, M2, M3, M4, M5, M6}
use Rattle.kc_memory.specs.declared.words.PWord.{PWord}

pub record Stopped : Type 0 where
  -- the virtual address that was asked
  pub va : ℕ
  pub rule : Rule
  -- of M3 to M5 the level of the page table's entry: 1 for a PTE up to 5 for a PML5E; else 0
  pub level : ℕ
  -- the physical address of that entry, of M6 that of the word; else 0
  pub pa : ℕ
  -- of M4 and M5 the entry
  pub entry : Option PWord

-- the level of a table's entry
abbrev pub is_level : ℕ → Bool
is_level level = nat_le 1 level && nat_le level 5

-- M3 has the entry's level; M4 and M5 have the entry too; M1, M2 and M6 have neither. No other rule stops the reading.
abbrev pub is_stop : Rule → ℕ → Option PWord → Bool
is_stop M1 level entry = nat_eq level 0 && is_none entry
is_stop M2 level entry = nat_eq level 0 && is_none entry
is_stop M3 level entry = is_level level && is_none entry
is_stop M4 level entry = is_level level && is_some entry
is_stop M5 level entry = is_level level && is_some entry
is_stop M6 level entry = nat_eq level 0 && is_none entry
is_stop rule level entry = false
