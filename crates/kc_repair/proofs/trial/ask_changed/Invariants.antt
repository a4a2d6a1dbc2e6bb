use Rattle.kc_outside.specs.declared.store.Slot.TheVariants.{Dump}
use Rattle.kc_outside.specs.Files.{content}
use Rattle.kc_phys.specs.Stored.{stored}
use Rattle.kc_repair.proofs.trial.ask_changed.Given as goal

abbrev pub ghosts-ask_lent : goal.ghosts-ask_lent
ghosts-ask_lent g a = record {
  physical = stored a.memory.segments.items a.memory.tail (content (g.S.Store.files a.memory.store.now) Dump (g.S.Store.opened a.memory.store.now Dump));
}
