use Rattle.std.proofs.Common.{◌≡◌, ◌∙◌, refl, rules, Err}
use Rattle.kc_outside.specs.declared.store.Slot.TheVariants.{Dump, Map, Plan, Report}
use Rattle.kc_outside.specs.Files.{content}
use Rattle.kc_cause.specs.declared.planned.Planned.{Planned}
use Rattle.kc_command.specs.declared.ends.answer.Answer.{Answer}
use Rattle.kc_cause.proofs.FileLemmas.{files_print, last_stays, late_stays}
use Rattle.kc_cause.proofs.files.explain.Goals as goal

pub returns-clause-unopened : goal.returns-clause-unopened
returns-clause-unopened g c =
    last_stays Answer c.args.asks.now c.explain_read.result (g.S.Store.opened c.args.store.now) (g.S.Store.opened c.explain_read.new.store) c.explain_read.ensures.refused

-- the files after the dump are other ones, so that the dump stays open
pub explain_read-requires-clause-inside : goal.explain_read-requires-clause-inside
explain_read-requires-clause-inside g c =
    rw (c.find_report.ensures.others_sizes Dump refl, c.find_plan.ensures.dump_sizes, c.in_ok-map.ensures.others_sizes Dump refl, c.in_ok-types.ensures.others_sizes Dump refl) c.in_ok-noted.ensures.inside

pub returns-clause-output : goal.returns-clause-output
returns-clause-output g c =
    files_print c.args.asks.now
    (g.S.Store.files c.args.store.now) _ c.in_ok-noted.noted c.in_ok-note.note.now c.in_ok-types.types c.in_ok-map.map c.in_ok-planned.planned _ c.in_ok-report.report c.explain_read.result
    c.in_ok-noted.ensures.told c.in_ok-note.ensures.made (rw c.in_ok-noted.ensures.files at c.in_ok-types.ensures.told)
    (rw (c.in_ok-types.ensures.files, c.in_ok-noted.ensures.files) at c.in_ok-map.ensures.told)
    (rw (c.deref.ensures.value, c.in_ok-map.ensures.files, c.in_ok-types.ensures.files, c.in_ok-noted.ensures.files) at c.in_ok-planned.ensures.told)
    (rw (c.in_ok-map.ensures.files, c.in_ok-types.ensures.files, c.in_ok-map.ensures.others_opened Dump refl, c.in_ok-types.ensures.others_opened Dump refl) c.in_ok-noted.ensures.content)
    (rw (c.in_ok-planned.ensures.files, c.in_ok-map.ensures.files, c.in_ok-types.ensures.files, c.in_ok-noted.ensures.files) at c.in_ok-report.ensures.told)
    (rw (c.deref-2.ensures.value, c.find_report.ensures.files, c.find_report.ensures.others_opened Dump refl, c.find_plan.ensures.files, c.find_plan.ensures.dump_opened) at c.explain_read.ensures.output)
