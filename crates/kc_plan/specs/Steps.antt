-- A plan as it is written, or the first fault of the document or of one audit's table.
use Rattle.std.specs.Prelude.{ℕ, ℤ, pos, List, [], codes, not, nat_lt, length, Option, Some, None, option_and_then, Result, Ok, Err, if◌then◌else◌}
use Rattle.std.specs.Ordering.{int_eq}
use Rattle.std.specs.Str.{bytes_eq, is_utf8}
use Rattle.toml.specs.Data.{Data, Members, as_integer, as_array, as_table}
use Rattle.toml.specs.Parse.{parse_document}
use Rattle.kc_word.specs.declared.plain.Tail.{Tail}
use Rattle.kc_word.specs.declared.plain.Tail.TheVariants as tail
use Rattle.kc_expr.specs.declared.keys.fault.PRule.{PRule}
use Rattle.kc_expr.specs.declared.keys.fault.PRule.TheVariants.{P1, P2, P3, P4, P8}
use Rattle.kc_expr.specs.declared.keys.fault.PlanFault.{PlanFault}
use Rattle.kc_expr.specs.declared.keys.fault.PlanKey.TheVariants as key
use Rattle.kc_kinds.specs.declared.needs.Need.TheVariants.{Allowed}
use Rattle.kc_plan.specs.Audits.{PlanText, all_keys, audits_for}
use Rattle.kc_plan.specs.Keys.{is_one_of, top_keys}
use Rattle.kc_plan.specs.Values.{◌>>=◌, all_read, at, refuse_if, required, text_for, value_at}

-- the document of bytes in UTF-8
abbrev pub document : List ℕ → Option Members
document bytes = if is_utf8 bytes then parse_document bytes else None

-- the bytes are a document
abbrev pub parsed : Option Members → Result Members PlanFault
parsed None = Err (record { rule = P1; audit = None; key = None })
parsed (Some table) = Ok table

-- a version
abbrev pub version_of : ℤ → Result ℕ PRule
version_of number = if int_eq number (pos 1) then Ok 1 else (if int_eq number (pos 2) then Ok 2 else Err P2)

unfoldable pub version_for : Members → Result ℕ PlanFault
version_for table = do
  number ← at None key.Version (required as_integer (value_at key.Version table))
  at None key.Version (version_of number)

-- how a tail is read, by its name
abbrev pub tail_of : List ℕ → Result Tail PRule
tail_of text =
    if bytes_eq text (codes "absent") then Ok tail.Absent
    else (if bytes_eq text (codes "zero") then Ok tail.Zero
    else Err P4)

-- it is absent where no key says how
abbrev pub tail_by : Option (List ℕ) → Result Tail PRule
tail_by None = Ok tail.Absent
tail_by (Some text) = tail_of text

unfoldable pub tail_for : Members → Result Tail PlanFault
tail_for table = do
  text ← text_for None Allowed key.Tail table
  at None key.Tail (tail_by text)

-- the audits' tables
abbrev pub tables : Data → Option (List Members)
tables found = option_and_then (all_read as_table) (as_array found)

-- at most 256 tables of audits
unfoldable pub tables_for : Members → Result (List Members) PlanFault
tables_for table = do
  these ← at None key.Audit (required tables (value_at key.Audit table))
  few ← at None key.Audit (refuse_if (nat_lt 256 (length these)) P8)
  Ok these

-- the plan of a document, which has no other keys
unfoldable pub written_for : Members → Result PlanText PlanFault
written_for table = do
  version ← version_for table
  known ← at None key.Other (refuse_if (not (all_keys (is_one_of top_keys) table)) P3)
  tail ← tail_for table
  these ← tables_for table
  audits ← audits_for [] these
  Ok (record { version = version; tail = tail; audits = audits })
