use Rattle.std.proofs.Common.{◌≡◌, None, Some, refl}
use Rattle.kc_outside.specs.declared.store.Slot.TheVariants.{Dump}
use Rattle.kc_outside.specs.Files.{content}
use Rattle.kc_plain.specs.Unpack.Unpacked.{descriptor_fault}
use Rattle.kc_plain_store.proofs.FaultLemmas.{bad_bytes, bad_descriptor}
use Rattle.kc_plain_store.proofs.PageLemmas.{on_ok, page_got}
use Rattle.kc_plain_store.proofs.pages.load.Goals as goal

pub returns-clause-told : goal.returns-clause-told
returns-clause-told g c =
    let told = content (g.S.Store.files c.args.store.now) Dump (g.S.Store.opened c.args.store.now Dump) in
    let one = content (g.S.Store.files c.read_descriptor.new.store) Dump (g.S.Store.opened c.read_descriptor.new.store Dump) in
    let same : one ≡ told = rw (c.in_ok-descriptor.ensures.stays.same_files, c.in_ok-descriptor.ensures.stays.same_opened) refl in
    let none : descriptor_fault c.args.core.now.file_size c.in_ok-descriptor.descriptor ≡ None = cc (c.in_default.ensures.value, c.descriptor_fault.ensures.value) in
    on_ok c.fetch.result _ _
    (page_got told one c.args.core.now.layout c.fetch.new.page c.args.index c.args.core.now.file_size c.in_ok-descriptor.descriptor same c.in_ok-descriptor.ensures.told c.know_size.ensures none)
    c.fetch.ensures.told

pub returns-in-Some-clause-bad : goal.returns-in-Some-clause-bad
returns-in-Some-clause-bad g c =
    let wrong : descriptor_fault c.args.core.now.file_size c.in_ok-descriptor.descriptor ≡ Some c.in-Some.fault = cc (c.in-Some.ensures.value, c.descriptor_fault.ensures.value) in
    bad_descriptor (content (g.S.Store.files c.args.store.now) Dump (g.S.Store.opened c.args.store.now Dump)) c.args.core.now c.args.index c.args.core.now.file_size c.in_ok-descriptor.descriptor c.in-Some.fault
    c.in_ok-descriptor.ensures.told c.know_size.ensures wrong c.requires.there

pub returns-clause-bad : goal.returns-clause-bad
returns-clause-bad g c =
    let told = content (g.S.Store.files c.args.store.now) Dump (g.S.Store.opened c.args.store.now Dump) in
    let one = content (g.S.Store.files c.read_descriptor.new.store) Dump (g.S.Store.opened c.read_descriptor.new.store Dump) in
    let same : one ≡ told = rw (c.in_ok-descriptor.ensures.stays.same_files, c.in_ok-descriptor.ensures.stays.same_opened) refl in
    let none : descriptor_fault c.args.core.now.file_size c.in_ok-descriptor.descriptor ≡ None = cc (c.in_default.ensures.value, c.descriptor_fault.ensures.value) in
    bad_bytes c.fetch.result told one c.args.core.now c.args.index c.args.core.now.file_size c.in_ok-descriptor.descriptor same c.in_ok-descriptor.ensures.told c.know_size.ensures none c.requires.there c.fetch.ensures.bad
