use Rattle.std.proofs.Common.{refl, ◌∙◌}
use Rattle.kc_outside.specs.declared.store.Slot.TheVariants as slot
use Rattle.kc_command.proofs.KernelLemmas.{kernel_told}
use Rattle.kc_command.proofs.kernel.read_kernel.Goals as goal

pub returns-clause-told : goal.returns-clause-told
returns-clause-told g c =
    kernel_told c.args.most (g.S.Store.files c.args.store.now) c.args.files.now.dump.now c.args.files.now.btf.now c.args.files.now.map.now c.in_ok-noted.noted c.in_ok-types.types c.in_ok-map.map
    c.in_ok-noted.ensures.told (rw c.in_ok-noted.ensures.files at c.in_ok-types.ensures.told)
    (rw (c.in_ok-types.ensures.files, c.in_ok-noted.ensures.files) at c.in_ok-map.ensures.told)

-- the calls between read other files, so the dump stays open
pub returns-clause-content : goal.returns-clause-content
returns-clause-content g c =
    rw (c.in_ok-map.ensures.files, c.in_ok-types.ensures.files, c.in_ok-map.ensures.others_opened slot.Dump refl, c.in_ok-types.ensures.others_opened slot.Dump refl) c.in_ok-noted.ensures.content

pub returns-clause-inside : goal.returns-clause-inside
returns-clause-inside g c = rw (c.in_ok-map.ensures.others_sizes slot.Dump refl, c.in_ok-types.ensures.others_sizes slot.Dump refl) c.in_ok-noted.ensures.inside
