use Rattle.std.proofs.Common.{inl, inr, refl, subst, Bool, IfSome, ◌≡◌}
use Rattle.kc_outside.specs.declared.store.Slot.TheVariants.{Dump}
use Rattle.kc_plain_store.specs.Faults.{is_complete}
use Rattle.kc_kplain.proofs.Copies.{at_done, told_whole}
use Rattle.kc_kplain.proofs.plain.end_done.Goals as goal

pub returns-clause-said : goal.returns-clause-said
returns-clause-said g c =
    let held = g.D.TellsCause.held c.args.dump.now in
    let whole = told_whole (g.D.Store.opened c.args.dump.now Dump) held c.is_whole.result c.requires c.is_whole.ensures in
    at_done _ _ c.end_with_line.result (λ took. inr (subst (λ (is : Bool). IfSome held (λ bytes. is_complete bytes ≡ is)) c.if-is_whole.false whole, took)) c.end_with_line.ensures.whole

pub returns-then-is_whole-clause-said : goal.returns-then-is_whole-clause-said
returns-then-is_whole-clause-said g c =
    let held = g.D.TellsCause.held c.args.dump.now in
    let whole = told_whole (g.D.Store.opened c.args.dump.now Dump) held c.is_whole.result c.requires c.is_whole.ensures in
    inl (subst (λ (is : Bool). IfSome held (λ bytes. is_complete bytes ≡ is)) c.if-is_whole.true whole, refl)
