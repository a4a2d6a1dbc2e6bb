-- `selftest`: `check` over the made files of so many items.
use Rattle.std.specs.Prelude.{◌≡◌, ℕ, ◌&&◌, if◌then◌else◌, nat_le, slice_get, List, [], ◌∷◌, codes, length, Option, Some, None, option_and_then, option_map, ℤ, pos, negsuc}
use Rattle.kc_word.specs.Decimal.{decimal_digits}
use Rattle.kc_gen.specs.Header.{dump}
use Rattle.kc_gen.specs.Texts.{map, plan}
use Rattle.kc_gen.specs.Types.{btf}
use Rattle.kc_command.specs.Made.{Made}
use Rattle.kc_command.specs.Ends.Asked.{Asked}
use Rattle.kc_app.specs.Check.{check_made}
use Rattle.kc_app.specs.Form.{Form}
use Rattle.kc_app.specs.Shown.{Shown}

-- how many items there may be
abbrev pub as_count : ℕ → Option ℕ
as_count n = if nat_le 1 n && nat_le n 100000 then Some n else None

-- a number of them, of 1 to 6 digits
abbrev pub count_in : List ℕ → Option ℕ
count_in text = if nat_le (length text) 6 then option_and_then as_count (decimal_digits text) else None

-- what `check` makes of the made files
abbrev pub selftest_made : ℕ → Made Shown
selftest_made n = check_made 65536 (Some (dump n None)) (Some btf) (Some map) (Some plan)

-- what `selftest` asks: no file of the outside
abbrev pub selftest_asked : ℕ → Asked Shown
selftest_asked n = record { named = []; made = λ files. selftest_made n }

abbrev pub selftest_asks : List (List ℕ) → Option (Asked Shown)
selftest_asks (n ∷ []) = option_map selftest_asked (count_in n)
selftest_asks _ = None

abbrev pub selftest_form : Form Shown
selftest_form = record { name = codes "selftest"; words = codes "N" ∷ []; asks = selftest_asks }

-- the first word names it
abbrev pub IsSelftest : List (List ℕ) → Type 0
IsSelftest words = slice_get words 0 ≡ Some (codes "selftest")

-- as the code reads it
abbrev pub count_of : ℤ → Option ℕ
count_of (pos n) = as_count n
count_of (negsuc n) = None
