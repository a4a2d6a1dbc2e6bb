-- What takes symbols has taken none at first.
use Rattle.std.specs.Prelude.{◌≡◌, ℕ, [], Option, Some, None, refl}
use Rattle.std.specs.Option.{option_or}
use Rattle.std.proofs.lemmas.List.{append-nil}
use Rattle.std.proofs.Common.{sym}
use Rattle.kc_kallsyms.specs.declared.map.Lines.{Lines}
use Rattle.kc_kallsyms.specs.declared.marks.Marks.{Marks}
use Rattle.kc_kallsyms.specs.Lined.{LinesFrom}
use Rattle.kc_kallsyms.specs.Marked.{MarksFrom}

pub lines_none : (rows : Lines) → LinesFrom rows rows []
lines_none rows = record { frame = refl; text = sym (append-nil rows.text.items) }

as_known : (known : Option ℕ) → known ≡ option_or known None
as_known None = refl
as_known (Some n) = refl

pub marks_none : (rows : Marks) → MarksFrom rows rows []
marks_none rows = record { text = as_known rows.text; processors = as_known rows.processors; start = as_known rows.start; end = as_known rows.end; loaded = as_known rows.loaded; typed = as_known rows.typed }
