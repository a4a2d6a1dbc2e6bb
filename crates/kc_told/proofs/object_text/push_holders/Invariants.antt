use Rattle.std.proofs.Common.{◌≡◌, ◌++◌, drop, map}
use Rattle.kc_text.specs.Compose.{texts}
use Rattle.kc_sight.specs.Views.{symbol_view}
use Rattle.kc_told.specs.ObjectText.{holder_text}
use Rattle.kc_told.proofs.object_text.push_holders.Given as goal

-- what was added, and what is still to come, are the whole
abbrev pub invariant-loop-symbol : goal.invariant-loop-symbol
invariant-loop-symbol l =
    l.text.items ++ texts holder_text (map symbol_view (drop l.symbol-index l.holders)) ≡ l.fn.text.items ++ texts holder_text (map symbol_view l.holders)
