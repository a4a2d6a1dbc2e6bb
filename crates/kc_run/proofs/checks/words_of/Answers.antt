use Rattle.std.proofs.Common.{◌∙◌, sym, ap, ◌++◌, ◌∷◌, List}
use Rattle.std.specs.Prelude.{option_to_list}
use Rattle.kc_memory.specs.declared.words.Place.{Place}
use Rattle.kc_run.proofs.Checking.{words_added}
use Rattle.kc_run.proofs.checks.words_of.Goals as goal

pub loop-i-preserved : goal.loop-i-preserved
loop-i-preserved c =
    c.in_ok-push_words.ensures ∙ ap (λ (ps : List Place). ps ++ c.get.result.now.first ∷ option_to_list c.get.result.now.second) c.loop-i.invariant
    ∙ sym (words_added c.args.numbers.now c.loop-i.i c.get.result.now c.get.ensures)
