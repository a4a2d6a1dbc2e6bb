use Rattle.std.proofs.Common.{◌≡◌, refl, sym, ap, ◌∙◌}
use Rattle.kc_outside.specs.declared.store.Slot.TheVariants.{Dump}
use Rattle.kc_outside.specs.Files.{content}
use Rattle.kc_plain_store.specs.declared.calls.Calls.{Calls}
use Rattle.kc_plain_store.proofs.ViewLemmas.{not_dump}
use Rattle.kc_plain_store.proofs.view.PlainViewStore.open_file.Goals as goal

pub invariant_of-self-in-Ok-open_file-clause-container : goal.invariant_of-self-in-Ok-open_file-clause-container
invariant_of-self-in-Ok-open_file-clause-container g c =
    let told = content (g.S.Store.files c.args.self.now.store) Dump (g.S.Store.opened c.args.self.now.store Dump) in
    let same : content (g.S.Store.files c.open_file.new.self) Dump (g.S.Store.opened c.open_file.new.self Dump) ≡ told = rw (c.open_file.ensures.files, c.open_file.ensures.others_opened Dump (not_dump c.args.slot (sym c.is_dump.ensures ∙ c.if-is_dump.false))) refl in
    λ x bytes kept here. c.args.self.now.container x bytes kept (sym same ∙ here)

pub invariant_of-self-in-Ok-open_file-clause-refused : goal.invariant_of-self-in-Ok-open_file-clause-refused
invariant_of-self-in-Ok-open_file-clause-refused g c =
    let told = content (g.S.Store.files c.args.self.now.store) Dump (g.S.Store.opened c.args.self.now.store Dump) in
    let same : content (g.S.Store.files c.open_file.new.self) Dump (g.S.Store.opened c.open_file.new.self Dump) ≡ told = rw (c.open_file.ensures.files, c.open_file.ensures.others_opened Dump (not_dump c.args.slot (sym c.is_dump.ensures ∙ c.if-is_dump.false))) refl in
    λ x bytes kept here. c.args.self.now.refused x bytes (sym (ap (λ (k : Calls). k.last) c.ask.ensures.next) ∙ kept) (sym same ∙ here)

pub invariant_of-self-in-Ok-open_file-clause-bad : goal.invariant_of-self-in-Ok-open_file-clause-bad
invariant_of-self-in-Ok-open_file-clause-bad g c =
    let told = content (g.S.Store.files c.args.self.now.store) Dump (g.S.Store.opened c.args.self.now.store Dump) in
    let same : content (g.S.Store.files c.open_file.new.self) Dump (g.S.Store.opened c.open_file.new.self Dump) ≡ told = rw (c.open_file.ensures.files, c.open_file.ensures.others_opened Dump (not_dump c.args.slot (sym c.is_dump.ensures ∙ c.if-is_dump.false))) refl in
    λ x bytes kept here. c.args.self.now.bad x bytes (sym (ap (λ (k : Calls). k.last) c.ask.ensures.next) ∙ kept) (sym same ∙ here)
