use Rattle.std.proofs.Common.{ap, sym, ◌∙◌}
use Rattle.kc_cause.specs.Written.{is_written}
use Rattle.kc_cause.proofs.LedLemmas.{unwritten}
use Rattle.kc_cause.proofs.repairs.push_written.Goals as goal

pub returns-then-not-is_written-clause-added : goal.returns-then-not-is_written-clause-added
returns-then-not-is_written-clause-added g c =
    unwritten (g.M.Space.image c.args.memory.now) c.args.over.now c.args.word c.args.text.now.items
    (ap is_written (sym c.meaning_of.ensures) ∙ sym c.is_written.ensures ∙ c.if-not-is_written.true)
