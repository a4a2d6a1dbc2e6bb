use Rattle.std.proofs.Common.{◌≡◌, ◌++◌}
use Rattle.kc_cause.specs.Explained.{leads_to}
use Rattle.kc_cause.specs.Judged.{over_plan}
use Rattle.kc_cause.specs.Lines.{led_lines, only_fits, repair_label, worth_lines}
use Rattle.kc_cause.proofs.LedLemmas.{between_pure}
use Rattle.kc_cause.proofs.repairs.push_one.Goals as goal

pub returns-clause-added : goal.returns-clause-added
returns-clause-added g c =
    let first : c.push_label.new.text.items ≡ c.args.text.now.items ++ repair_label (only_fits c.args.found.now.rule c.args.found.now.at c.args.word) = rw (← c.found.view_is) (rw c.only_fits.ensures at c.in_ok-push_label.ensures) in
    between_pure (g.M.Space.image c.args.memory.now) c.args.text.now.items c.push_label.new.text.items c.push_led.new.text.items c.push_worth.new.text.items
    (repair_label (only_fits c.args.found.now.rule c.args.found.now.at c.args.word)) (λ m. led_lines (leads_to (over_plan c.args.over.now m)) c.args.word) (worth_lines c.args.mended.now)
    first c.in_ok-push_led.ensures.added c.in_ok-push_worth.ensures
