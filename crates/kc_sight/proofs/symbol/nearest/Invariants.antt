use Rattle.std.proofs.Common.{◌≡◌, option_map}
use Rattle.kc_syms.specs.Rows.{lines}
use Rattle.kc_sight.specs.Lines.{in_lines}
use Rattle.kc_sight.specs.Nearest.{higher}
use Rattle.kc_sight.specs.Views.{symbol_view}
use Rattle.kc_sight.proofs.symbol.nearest.Given as goal

-- what was found and what the lines that are left have come to what all lines have
abbrev pub invariant-loop-line : goal.invariant-loop-line
invariant-loop-line l =
    (goal.iterator-loop-line).can_next l.line-iterator ×
    (goal.iterator-loop-line).is_finite l.line-iterator ×
    (higher (option_map symbol_view l.found) (in_lines l.from l.kaslr l.address l.line-iterator) ≡ in_lines l.from l.kaslr l.address (lines l.fn.map))
