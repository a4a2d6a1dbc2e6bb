use Rattle.kc_outside.specs.declared.store.Slot.TheVariants.{Dump}
use Rattle.kc_outside.specs.Files.{content}
use Rattle.kc_outside.specs.MemStore.{files_in, opened_in}
use Rattle.kc_phys.specs.Stored.{stored}
use Rattle.kc_tests.proofs.of_patch.several_changed_words_are_read_changed.Given as goal

abbrev pub ghosts-told-K-Lent : goal.ghosts-told-K-Lent
ghosts-told-K-Lent g a = record {
  physical = stored a.memory.segments.items a.memory.tail (content (files_in a.memory.store.now) Dump (opened_in a.memory.store.now Dump));
}

abbrev pub ghosts-told-L-Ledger : goal.ghosts-told-L-Ledger
ghosts-told-L-Ledger g a = record { name = a.blank.name; parts = a.blank.parts }
