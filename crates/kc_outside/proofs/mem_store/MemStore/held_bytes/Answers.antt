-- The slot's place has the first file of its name.
use Rattle.kc_outside.proofs.MemLemmas.{held-bytes, held-size}
use Rattle.kc_outside.proofs.mem_store.MemStore.held_bytes.Goals as goal

pub returns-clause-content : goal.returns-clause-content
returns-clause-content c =
    rw c.as_slice.ensures.value
    (held-bytes _ _ _ c.index.result.now c.place_in.ensures.place (c.args.self.now.held c.args.slot) c.index.ensures)

pub returns-clause-size : goal.returns-clause-size
returns-clause-size c =
    rw c.as_slice.ensures.value
    (held-size _ _ _ c.index.result.now c.place_in.ensures.place (c.args.self.now.held c.args.slot) c.index.ensures)
