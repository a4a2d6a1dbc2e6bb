-- The slot's place has the first file of its name.
use Rattle.std.proofs.Common.{ap, length, ◌∙◌}
use Rattle.std.specs.Option.{option_map}
use Rattle.kc_outside.proofs.MemLemmas.{learnt-size}
use Rattle.kc_outside.proofs.mem_store.MemStore.learn.Goals as goal

pub returns-clause-size : goal.returns-clause-size
returns-clause-size c =
    rw (c.put.ensures.slots, c.put.ensures.files)
    (learnt-size _ _ _ _ c.place_in-at.ensures.place (c.args.self.now.held c.args.slot) ∙ ap (option_map length) c.held_bytes.ensures.content)
