use Rattle.std.proofs.Common.{◌≡◌, ◌++◌, drop}
use Rattle.kc_text.specs.Compose.{texts}
use Rattle.kc_sight.specs.Views.{image_symbols}
use Rattle.kc_told.specs.Text.{near_line}
use Rattle.kc_told.proofs.text.push_all_near.Given as goal

-- what was added, and what is still to come, are the whole
abbrev pub invariant-loop-word : goal.invariant-loop-word
invariant-loop-word l =
    l.text.items ++ texts (near_line (image_symbols l.image)) (drop l.word-index l.near) ≡ l.fn.text.items ++ texts (near_line (image_symbols l.image)) l.near
