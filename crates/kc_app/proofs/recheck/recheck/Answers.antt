use Rattle.std.proofs.Common.{◌≡◌, List, refl, rules, Err}
use Rattle.kc_outside.specs.declared.store.Slot.TheVariants.{Dump, Btf, Map, Plan, Report}
use Rattle.kc_outside.specs.Files.{content}
use Rattle.kc_cert.specs.declared.text.certificate.CertStep.{CertStep}
use Rattle.kc_app.specs.declared.held.HeldFiles.{HeldFiles}
use Rattle.kc_command.specs.declared.ends.answer.Answer.{Answer}
use Rattle.kc_app.specs.Check.{audited}
use Rattle.kc_app.specs.Recheck.{cert_files}
use Rattle.kc_app.proofs.Certified.{cert_replies, four_stay, last_stays}
use Rattle.kc_app.proofs.recheck.recheck.Goals as goal

pub returns-in_err-held-clause-unopened : goal.returns-in_err-held-clause-unopened
returns-in_err-held-clause-unopened g c =
    let is : c.from_residual.result ≡ Err c.in_err-held.field-0.0 = search rules in
    four_stay c.args.asks.now.files.most HeldFiles Answer (cert_files c.args.asks.now) c.in_err-held.field-0.0 c.from_residual.result
    (g.S.Store.opened c.args.store.now) (g.S.Store.opened c.read_held.new.store) is c.read_held.ensures.cert_opened c.in_err-held.ensures.unopened

pub returns-in_err-cert-clause-unopened : goal.returns-in_err-cert-clause-unopened
returns-in_err-cert-clause-unopened g c =
    let is : c.from_residual-in_err-cert.result ≡ Err c.in_err-cert.field-0.0 = search rules in
    last_stays c.args.asks.now.files.most (List CertStep) Answer (cert_files c.args.asks.now) c.in_err-cert.field-0.0 c.from_residual-in_err-cert.result
    (g.S.Store.opened c.args.store.now) (g.S.Store.opened c.find_cert.new.store) is c.in_err-cert.ensures.refused

-- the certificate's file is another, so the dump stays open
pub rechecked-requires-clause-inside : goal.rechecked-requires-clause-inside
rechecked-requires-clause-inside g c = rw (c.find_cert.ensures.others_sizes Dump refl) c.in_ok-held.ensures.inside

pub returns-clause-output : goal.returns-clause-output
returns-clause-output g c =
    cert_replies (λ files. audited c.args.asks.now.files.most (files Dump c.args.asks.now.files.kernel.dump.now) (files Btf c.args.asks.now.files.kernel.btf.now) (files Map c.args.asks.now.files.kernel.map.now) (files Plan c.args.asks.now.files.plan.now)) (λ files. files Report c.args.asks.now.cert.now)
    (g.S.Store.files c.args.store.now) (content (g.S.Store.files c.read_held.new.store) Dump (g.S.Store.opened c.read_held.new.store Dump)) c.in_ok-held.held c.in_ok-cert.cert c.rechecked.result
    c.in_ok-held.ensures.told (rw c.in_ok-held.ensures.reads.same at c.in_ok-cert.ensures.told)
    (rw (c.find_cert.ensures.reads.same, c.find_cert.ensures.others_opened Dump refl) at c.rechecked.ensures.output)
