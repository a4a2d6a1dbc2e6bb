use Rattle.std.proofs.Common.{◌≡◌, drop}
use Rattle.kc_outside.specs.declared.store.Slot.TheVariants.{Dump}
use Rattle.kc_outside.specs.Files.{content}
use Rattle.kc_elf.specs.Stays.{StoreStays}
use Rattle.kc_memory_note.proofs.NoteLemmas.{SegmentsLeft}
use Rattle.kc_memory_note.proofs.find.find_memory_note.Given as goal

-- no segment before this one has the note; and the store is as it was, but for its calls
abbrev pub invariant-loop-segment : goal.invariant-loop-segment
invariant-loop-segment g l = record {
  left : SegmentsLeft (content (g.S.Store.files l.initial.store) Dump (g.S.Store.opened l.initial.store Dump)) l.segments (drop l.segment-index l.segments);
  stays : StoreStays g.S.Store.opened g.S.Store.sizes g.S.Store.files g.S.Store.may g.S.Store.asked l.initial.store l.store;
  quiet : g.S.Store.faults l.store ≡ g.S.Store.faults l.initial.store;
}
