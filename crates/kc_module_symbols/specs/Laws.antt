-- What is told of symbols.
use Rattle.std.specs.Prelude.{◌≡◌, ℕ, ◌<◌, ◌≤◌, Bool, true, false, List, slice_get, Some, None}
use Rattle.kc_module_symbols.specs.declared.symbol.ElfSymbol.{ElfSymbol}
use Rattle.kc_module_symbols.specs.Nearest.{nearest}

-- one of the symbols that may name an address
pub record IsOne (may : ElfSymbol → Bool) (symbols : List ElfSymbol) (place : ℕ) (s : ElfSymbol) : Type 0 where
  pub listed : slice_get symbols place ≡ Some s
  pub names : may s ≡ true

-- the nearest is one of them; none of them stands nearer, and none before it as near
pub record IsNearest (may : ElfSymbol → Bool) (symbols : List ElfSymbol) (s : ElfSymbol) : Type 0 where
  pub place : ℕ
  pub one : IsOne may symbols place s
  pub greatest : (k : ℕ) (other : ElfSymbol) → IsOne may symbols k other → other.value ≤ s.value
  pub first : (k : ℕ) (other : ElfSymbol) → IsOne may symbols k other → k < place → other.value < s.value

abbrev pub NearestStands : Type 0
NearestStands = (may : ElfSymbol → Bool) (symbols : List ElfSymbol) (s : ElfSymbol) → nearest may symbols ≡ Some s → IsNearest may symbols s

-- where none is told, none of them may
abbrev pub NoneNames : Type 0
NoneNames = (may : ElfSymbol → Bool) (symbols : List ElfSymbol) → nearest may symbols ≡ None
    → (k : ℕ) (other : ElfSymbol) → slice_get symbols k ≡ Some other → may other ≡ false
