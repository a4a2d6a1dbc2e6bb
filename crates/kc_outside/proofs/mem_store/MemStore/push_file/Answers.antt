-- A file more, of a name that wasn't there.
use Rattle.std.proofs.Common.{is_ok}
use Rattle.kc_outside.specs.Slots.{in_slot}
use Rattle.kc_outside.proofs.AddLemmas.{is_held-added, held_name-push, held_size-push, named_bytes-push}
use Rattle.kc_outside.proofs.mem_store.MemStore.push_file.Goals as goal

pub invariant_of-self : goal.invariant_of-self
invariant_of-self c = record {
  held = λ slot. rw c.push.ensures.items (is_held-added _ _ _ (is_ok c.push.result) (c.args.self.now.held slot));
}

pub returns-clause-bytes : goal.returns-clause-bytes
returns-clause-bytes c = λ name. rw c.in_ok-push.ensures.items (named_bytes-push _ _ c.requires name)

pub returns-clause-sizes : goal.returns-clause-sizes
returns-clause-sizes c = λ slot. rw c.in_ok-push.ensures.items (held_size-push c.args.self.now.files.items c.args.file c.requires (in_slot c.args.self.now.slots slot) (c.args.self.now.held slot))

pub returns-clause-opened : goal.returns-clause-opened
returns-clause-opened c = λ slot. rw c.in_ok-push.ensures.items (held_name-push c.args.self.now.files.items c.args.file (in_slot c.args.self.now.slots slot) (c.args.self.now.held slot))
