-- A file in the place of another of its name.
use Rattle.kc_outside.proofs.AddLemmas.{replaces, is_held-set, held_name-set, held_size-set, named_bytes-set, in_slot-all_without_size}
use Rattle.kc_outside.proofs.mem_store.MemStore.replace_file.Goals as goal

pub invariant_of-self : goal.invariant_of-self
invariant_of-self c =
    let old = replaces c.args.self.now.files.items c.args.at c.args.file c.requires.held c.requires.name in
    record {
      held = λ slot. rw (c.forget_sizes-self.ensures, in_slot-all_without_size c.args.at c.args.self.now.slots slot)
          (is_held-set _ _ _ _ old.1 _ (c.args.self.now.held slot));
    }

pub returns-clause-bytes : goal.returns-clause-bytes
returns-clause-bytes c =
    let old = replaces c.args.self.now.files.items c.args.at c.args.file c.requires.held c.requires.name in
    λ name. named_bytes-set _ _ _ _ old.1 name

pub returns-clause-sizes : goal.returns-clause-sizes
returns-clause-sizes c =
    let old = replaces c.args.self.now.files.items c.args.at c.args.file c.requires.held c.requires.name in
    λ slot. rw (c.forget_sizes-self.ensures, in_slot-all_without_size c.args.at c.args.self.now.slots slot)
    (held_size-set _ _ _ _ old.1 _ (c.args.self.now.held slot))

pub returns-clause-opened : goal.returns-clause-opened
returns-clause-opened c =
    let old = replaces c.args.self.now.files.items c.args.at c.args.file c.requires.held c.requires.name in
    λ slot. rw (c.forget_sizes-self.ensures, in_slot-all_without_size c.args.at c.args.self.now.slots slot)
    (held_name-set _ _ _ _ old.1 _)
