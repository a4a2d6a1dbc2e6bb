use Rattle.std.proofs.Common.{ℕ, List}
use Rattle.kc_outside.specs.declared.store.Slot.TheVariants.{Dump}
use Rattle.kc_outside.specs.Files.{content}
use Rattle.kc_cert.specs.Rechecking.Certificates.{answer}
use Rattle.kc_app.specs.Held.{audited_of}
use Rattle.kc_app.proofs.Certified.{found_counts, found_replies}
use Rattle.kc_app.proofs.recheck.rechecked.Goals as goal

pub returns-clause-output : goal.returns-clause-output
returns-clause-output g c =
    found_replies (content (g.S.Store.files c.args.store.now) Dump (g.S.Store.opened c.args.store.now Dump))
    (λ (bytes : List ℕ). answer (audited_of c.args.held.now bytes).image (audited_of c.args.held.now bytes).audits c.args.cert.now) c.in_ok-found.found c.answer_of.result
    c.in_ok-found.ensures.says c.answer_of.ensures.output

pub returns-clause-reads : goal.returns-clause-reads
returns-clause-reads g c =
    let counts = found_counts c.in_ok-found.found c.answer_of.result _ _ c.answer_of.ensures.output c.in_ok-found.ensures.leaves in
    record { same = c.in_ok-found.ensures.files; later = counts.later; quiet = counts.quiet; cause = counts.cause }
