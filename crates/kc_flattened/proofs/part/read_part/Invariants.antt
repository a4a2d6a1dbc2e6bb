use Rattle.std.proofs.Common.{◌≡◌, ℕ, ◌+◌, ◌<◌, ◌≤◌, List, length, take, slice_index, IfSome}
use Rattle.kc_outside.specs.declared.store.Slot.{Slot}
use Rattle.kc_outside.specs.Files.{content}
use Rattle.kc_flattened.specs.Flat.{written}
use Rattle.kc_flattened.proofs.part.read_part.Given as goal

-- the store as it was, but for its counts; and what the records up to here write
abbrev pub invariant-loop-record : goal.invariant-loop-record
invariant-loop-record g l = record {
  opened : g.S.Store.opened l.store ≡ g.S.Store.opened l.initial.store;
  sizes : g.S.Store.sizes l.store ≡ g.S.Store.sizes l.initial.store;
  files : g.S.Store.files l.store ≡ g.S.Store.files l.initial.store;
  may : (s : Slot) (n : List ℕ) → g.S.Store.may l.initial.store s n → g.S.Store.may l.store s n;
  may_no_more : (s : Slot) (n : List ℕ) → g.S.Store.may l.store s n → g.S.Store.may l.initial.store s n;
  quiet : g.S.Store.faults l.store ≡ g.S.Store.faults l.initial.store;
  asked_later : g.S.Store.asked l.initial.store ≤ g.S.Store.asked l.store;
  whole : IfSome (content (g.S.Store.files l.initial.store) l.slot (g.S.Store.opened l.initial.store l.slot))
      (λ bytes. (k : ℕ) → k < length l.buf → slice_index l.buf k ≡ written bytes (take l.record-index l.records) (l.off + k) 0);
}
