use Rattle.std.proofs.Common.{◌≡◌, length, IsSome, refl, sym, ap, ◌∙◌}
use Rattle.kc_outside.specs.declared.store.Slot.TheVariants.{Dump}
use Rattle.kc_outside.specs.Files.{content}
use Rattle.kc_plain_store.specs.Seen.{is_dump}
use Rattle.kc_plain_store.specs.declared.calls.Calls.{Calls}
use Rattle.kc_plain_store.proofs.FaultLemmas.{bad_kept, none_kept, none_wanted, shape_there}
use Rattle.kc_plain_store.proofs.ViewLemmas.{read_part}
use Rattle.kc_plain_store.proofs.view.PlainViewStore.read_at.Goals as goal

pub returns-in-Ok-clause-part : goal.returns-in-Ok-clause-part
returns-in-Ok-clause-part g c =
    read_part c.args.slot c.args.self.now.shape (g.S.Store.files c.args.self.now.store) (g.S.Store.opened c.args.self.now.store) c.args.off (length c.args.buf.now) c.read_shown.new.buf
    (sym c.is_dump.ensures ∙ c.if-is_dump.true) c.args.self.now.told c.in-Ok.ensures.part

pub invariant_of-self-clause-container : goal.invariant_of-self-clause-container
invariant_of-self-clause-container g c =
    let told = content (g.S.Store.files c.args.self.now.store) Dump (g.S.Store.opened c.args.self.now.store Dump) in
    let same : content (g.S.Store.files c.read_shown.new.store) Dump (g.S.Store.opened c.read_shown.new.store Dump) ≡ told = rw (c.read_shown.ensures.stays.same_files, c.read_shown.ensures.stays.same_opened) refl in
    λ x bytes kept here. c.args.self.now.container x bytes kept (sym same ∙ here)

pub invariant_of-self-clause-refused : goal.invariant_of-self-clause-refused
invariant_of-self-clause-refused g c =
    let told = content (g.S.Store.files c.args.self.now.store) Dump (g.S.Store.opened c.args.self.now.store Dump) in
    let same : content (g.S.Store.files c.read_shown.new.store) Dump (g.S.Store.opened c.read_shown.new.store Dump) ≡ told = rw (c.read_shown.ensures.stays.same_files, c.read_shown.ensures.stays.same_opened) refl in
    λ x bytes kept here. c.args.self.now.refused x bytes (sym (ap (λ (k : Calls). k.last) c.ask.ensures.next) ∙ kept) (sym same ∙ here)

pub invariant_of-self-clause-bad : goal.invariant_of-self-clause-bad
invariant_of-self-clause-bad g c =
    let told = content (g.S.Store.files c.args.self.now.store) Dump (g.S.Store.opened c.args.self.now.store Dump) in
    let same : content (g.S.Store.files c.read_shown.new.store) Dump (g.S.Store.opened c.read_shown.new.store Dump) ≡ told = rw (c.read_shown.ensures.stays.same_files, c.read_shown.ensures.stays.same_opened) refl in
    λ x bytes kept here. c.args.self.now.bad x bytes (sym (ap (λ (k : Calls). k.last) c.ask.ensures.next) ∙ kept) (sym same ∙ here)

pub invariant_of-self-in-Ok-read_at-clause-container : goal.invariant_of-self-in-Ok-read_at-clause-container
invariant_of-self-in-Ok-read_at-clause-container g c =
    let told = content (g.S.Store.files c.args.self.now.store) Dump (g.S.Store.opened c.args.self.now.store Dump) in
    let same : content (g.S.Store.files c.read_at.new.self) Dump (g.S.Store.opened c.read_at.new.self Dump) ≡ told = rw (c.read_at.ensures.files, c.read_at.ensures.opened) refl in
    λ x bytes kept here. c.args.self.now.container x bytes kept (sym same ∙ here)

pub invariant_of-self-in-Ok-read_at-clause-refused : goal.invariant_of-self-in-Ok-read_at-clause-refused
invariant_of-self-in-Ok-read_at-clause-refused g c =
    let told = content (g.S.Store.files c.args.self.now.store) Dump (g.S.Store.opened c.args.self.now.store Dump) in
    let same : content (g.S.Store.files c.read_at.new.self) Dump (g.S.Store.opened c.read_at.new.self Dump) ≡ told = rw (c.read_at.ensures.files, c.read_at.ensures.opened) refl in
    λ x bytes kept here. c.args.self.now.refused x bytes (sym (ap (λ (k : Calls). k.last) c.ask.ensures.next) ∙ kept) (sym same ∙ here)

pub invariant_of-self-in-Ok-read_at-clause-bad : goal.invariant_of-self-in-Ok-read_at-clause-bad
invariant_of-self-in-Ok-read_at-clause-bad g c =
    let told = content (g.S.Store.files c.args.self.now.store) Dump (g.S.Store.opened c.args.self.now.store Dump) in
    let same : content (g.S.Store.files c.read_at.new.self) Dump (g.S.Store.opened c.read_at.new.self Dump) ≡ told = rw (c.read_at.ensures.files, c.read_at.ensures.opened) refl in
    λ x bytes kept here. c.args.self.now.bad x bytes (sym (ap (λ (k : Calls). k.last) c.ask.ensures.next) ∙ kept) (sym same ∙ here)

pub invariant_of-self-in-Err-clause-container : goal.invariant_of-self-in-Err-clause-container
invariant_of-self-in-Err-clause-container g c =
    let told = content (g.S.Store.files c.args.self.now.store) Dump (g.S.Store.opened c.args.self.now.store Dump) in
    let same : content (g.S.Store.files c.read_shown.new.store) Dump (g.S.Store.opened c.read_shown.new.store Dump) ≡ told = rw (c.read_shown.ensures.stays.same_files, c.read_shown.ensures.stays.same_opened) refl in
    λ s bytes shown here. c.args.self.now.container s bytes shown (sym same ∙ here)

pub invariant_of-self-in-Err-clause-refused : goal.invariant_of-self-in-Err-clause-refused
invariant_of-self-in-Err-clause-refused g c =
    let there : IsSome c.args.self.now.shape = shape_there c.args.self.now.is_learnt c.args.self.now.shape (g.S.Store.sizes c.args.self.now.store c.args.slot) (is_dump c.args.slot) (sym c.is_dump.ensures ∙ c.if-is_dump.true) c.requires.learnt in
    λ f bytes kept here. absurd (none_kept (Unit {0}) c.args.self.now.shape c.in-Err.fault _ there c.in-Err.ensures.bad f (sym (ap (λ (k : Calls). k.last) c.fail.ensures.next) ∙ kept))

pub invariant_of-self-in-Err-clause-bad : goal.invariant_of-self-in-Err-clause-bad
invariant_of-self-in-Err-clause-bad g c =
    let told = content (g.S.Store.files c.args.self.now.store) Dump (g.S.Store.opened c.args.self.now.store Dump) in
    let same : content (g.S.Store.files c.read_shown.new.store) Dump (g.S.Store.opened c.read_shown.new.store Dump) ≡ told = rw (c.read_shown.ensures.stays.same_files, c.read_shown.ensures.stays.same_opened) refl in
    let there : IsSome c.args.self.now.shape = shape_there c.args.self.now.is_learnt c.args.self.now.shape (g.S.Store.sizes c.args.self.now.store c.args.slot) (is_dump c.args.slot) (sym c.is_dump.ensures ∙ c.if-is_dump.true) c.requires.learnt in
    λ bad bytes kept here. bad_kept (Unit {0}) c.args.self.now.shape c.in-Err.fault told there c.in-Err.ensures.bad c.args.self.now.container bad bytes (sym (ap (λ (k : Calls). k.last) c.fail.ensures.next) ∙ kept) (sym same ∙ here)

pub invariant_of-self-in-Err-clause-wanted : goal.invariant_of-self-in-Err-clause-wanted
invariant_of-self-in-Err-clause-wanted g c =
    let there : IsSome c.args.self.now.shape = shape_there c.args.self.now.is_learnt c.args.self.now.shape (g.S.Store.sizes c.args.self.now.store c.args.slot) (is_dump c.args.slot) (sym c.is_dump.ensures ∙ c.if-is_dump.true) c.requires.learnt in
    λ s kept shown. none_wanted (Unit {0}) c.args.self.now.shape c.in-Err.fault _ there c.in-Err.ensures.bad (sym (ap (λ (k : Calls). k.last) c.fail.ensures.next) ∙ kept)
