-- What holds of the place of a name.
use Rattle.std.proofs.Common.{ap, ◌∙◌, is_some}
use Rattle.kc_outside.proofs.MemLemmas.{place-known, place-held, place-named}
use Rattle.kc_outside.proofs.mem_store.MemStore.place_of.Goals as goal

pub returns-clause-known : goal.returns-clause-known
returns-clause-known c = ap is_some (rw c.as_slice.ensures.value at c.first_of.ensures) ∙ place-known c.args.self.now.files.items c.args.name.now

pub returns-clause-held : goal.returns-clause-held
returns-clause-held c = place-held _ _ _ (rw c.as_slice.ensures.value at c.first_of.ensures)

pub returns-clause-name : goal.returns-clause-name
returns-clause-name c = place-named _ _ _ (rw c.as_slice.ensures.value at c.first_of.ensures)
