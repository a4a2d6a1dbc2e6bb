use Rattle.std.proofs.Common.{◌≡◌, ℕ, ◌-◌, ◌≤◌, List, IfSome, All}
use Rattle.kc_outside.specs.declared.store.Slot.{Slot}
use Rattle.kc_outside.specs.Files.{content}
use Rattle.kc_flattened.specs.Flat.{IsInside, before, records_from}
use Rattle.kc_flattened.proofs.read.read_all.Given as goal

-- the store as it was, but for its counts; and what is read, before what is left to read
abbrev pub invariant-loop-i : goal.invariant-loop-i
invariant-loop-i g l = record {
  opened : g.S.Store.opened l.store ≡ g.S.Store.opened l.initial.store;
  sizes : g.S.Store.sizes l.store ≡ g.S.Store.sizes l.initial.store;
  files : g.S.Store.files l.store ≡ g.S.Store.files l.initial.store;
  may : (s : Slot) (n : List ℕ) → g.S.Store.may l.initial.store s n → g.S.Store.may l.store s n;
  may_no_more : (s : Slot) (n : List ℕ) → g.S.Store.may l.store s n → g.S.Store.may l.initial.store s n;
  quiet : g.S.Store.faults l.store ≡ g.S.Store.faults l.initial.store;
  asked_later : g.S.Store.asked l.initial.store ≤ g.S.Store.asked l.store;
  within : l.at ≤ l.size;
  inside : All (IsInside l.size) l.records.items;
  whole : IfSome (content (g.S.Store.files l.initial.store) l.slot (g.S.Store.opened l.initial.store l.slot))
      (λ bytes. before l.records.items (records_from (4194304 - l._i) l.size l.at bytes) ≡ records_from 4194304 l.size 4096 bytes);
}
