use Rattle.std.proofs.Common.{vec_len, ◌≡◌, ℕ, ◌≤◌, List, ◌++◌, drop, map, IfSome}
use Rattle.kc_outside.specs.declared.store.Slot.{Slot}
use Rattle.kc_outside.specs.Files.{content}
use Rattle.kc_elf.specs.CoreFile.{parts_of}
use Rattle.kc_elf.proofs.read.read_parts.Given as goal

-- the store as it was, but for its counts; and what is read, before what is left to read
abbrev pub invariant-loop-segment : goal.invariant-loop-segment
invariant-loop-segment g l = record {
  opened : g.S.Store.opened l.store ≡ g.S.Store.opened l.initial.store;
  sizes : g.S.Store.sizes l.store ≡ g.S.Store.sizes l.initial.store;
  files : g.S.Store.files l.store ≡ g.S.Store.files l.initial.store;
  may : (s : Slot) (n : List ℕ) → g.S.Store.may l.initial.store s n → g.S.Store.may l.store s n;
  may_no_more : (s : Slot) (n : List ℕ) → g.S.Store.may l.store s n → g.S.Store.may l.initial.store s n;
  quiet : g.S.Store.faults l.store ≡ g.S.Store.faults l.initial.store;
  asked_later : g.S.Store.asked l.initial.store ≤ g.S.Store.asked l.store;
  count : vec_len l.parts ≡ l.segment-index;
  whole : IfSome (content (g.S.Store.files l.initial.store) l.slot (g.S.Store.opened l.initial.store l.slot))
      (λ bytes. map (λ v. v.items) l.parts.items ++ parts_of (drop l.segment-index l.segments) bytes ≡ parts_of l.segments bytes);
}
