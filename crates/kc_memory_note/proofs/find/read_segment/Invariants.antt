use Rattle.std.proofs.Common.{◌≡◌}
use Rattle.kc_outside.specs.declared.store.Slot.TheVariants.{Dump}
use Rattle.kc_outside.specs.Files.{content}
use Rattle.kc_elf.specs.Stays.{StoreStays}
use Rattle.kc_memory_note.proofs.NoteLemmas.{PagesLeft}
use Rattle.kc_memory_note.proofs.find.read_segment.Given as goal

-- no page before this one begins with the note; and the store is as it was, but for its calls
abbrev pub invariant-loop-page : goal.invariant-loop-page
invariant-loop-page g l = record {
  left : PagesLeft (content (g.S.Store.files l.initial.store) Dump (g.S.Store.opened l.initial.store Dump)) l.segment l.page;
  stays : StoreStays g.S.Store.opened g.S.Store.sizes g.S.Store.files g.S.Store.may g.S.Store.asked l.initial.store l.store;
  quiet : g.S.Store.faults l.store ≡ g.S.Store.faults l.initial.store;
}
