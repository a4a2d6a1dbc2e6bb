-- What contracts see of a row.
use Rattle.kc_syms.specs.declared.row.Row.{Row}
use Rattle.kc_syms.specs.Rows.{RowText}

abbrev pub row_text : Row → RowText
row_text row = record { listed = row.listed; name = row.name.now }
