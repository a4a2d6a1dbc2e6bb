-- The place that is put is that of the first file of a name, and each other slot is as it was.
use Rattle.std.proofs.Common.{IsTrue}
use Rattle.kc_outside.specs.MemFiles.{is_held}
use Rattle.kc_outside.proofs.MemLemmas.{each-with_slot}
use Rattle.kc_outside.proofs.mem_store.MemStore.put.Goals as goal

pub invariant_of-self : goal.invariant_of-self
invariant_of-self c = record {
  held = rw c.replace.ensures.after
      (each-with_slot (λ held. IsTrue (is_held c.args.self.now.files.items held)) _ c.args.slot c.args.held c.requires c.args.self.now.held);
}
