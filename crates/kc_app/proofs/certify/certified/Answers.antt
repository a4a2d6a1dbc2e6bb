use Rattle.std.proofs.Common.{ℕ, List}
use Rattle.kc_outside.specs.declared.store.Slot.TheVariants.{Dump}
use Rattle.kc_outside.specs.Files.{content}
use Rattle.kc_app.specs.Held.{audited_of}
use Rattle.kc_app.proofs.Certified.{made_counts, made_replies}
use Rattle.kc_app.proofs.certify.certified.Goals as goal

pub returns-clause-output : goal.returns-clause-output
returns-clause-output g c =
    made_replies (content (g.S.Store.files c.args.store.now) Dump (g.S.Store.opened c.args.store.now Dump)) (audited_of c.args.held.now) c.in_ok-names.names c.in_ok-made.made c.answer_of.result
    (λ (bytes : List ℕ). c.in_ok-names.ensures) c.in_ok-made.ensures.says c.answer_of.ensures.output

pub returns-clause-reads : goal.returns-clause-reads
returns-clause-reads g c =
    let counts = made_counts c.in_ok-names.names c.in_ok-made.made c.answer_of.result _ _ c.answer_of.ensures.output c.in_ok-made.ensures.leaves.1 in
    record { same = c.in_ok-made.ensures.files; later = counts.later; quiet = counts.quiet; cause = counts.cause }
