use Rattle.std.proofs.Common.{◌≡◌, ◌-◌, ◌≤◌, IfSome}
use Rattle.kc_outside.specs.declared.store.Slot.TheVariants.{Dump}
use Rattle.kc_outside.specs.Files.{content}
use Rattle.kc_kdump.specs.Dump.{there_from}
use Rattle.kc_kdump.specs.Stays.{StoreStays}
use Rattle.kc_kdump.proofs.there.count_first.Given as goal

-- the store as it was, but for its counts; and the first pages are there
abbrev pub invariant-loop-index : goal.invariant-loop-index
invariant-loop-index g l = record {
  stays : StoreStays g.S.Store.opened g.S.Store.sizes g.S.Store.files g.S.Store.may g.S.Store.asked l.fn.store l.store;
  quiet : g.S.Store.faults l.store ≡ g.S.Store.faults l.fn.store;
  few : l.index ≤ l.most;
  there : IfSome (content (g.S.Store.files l.fn.store) Dump (g.S.Store.opened l.fn.store Dump))
      (λ bytes. there_from l.size l.layout bytes l.index (l.most - l.index) ≡ there_from l.size l.layout bytes 0 l.most);
}

abbrev pub decreases-loop-index : goal.decreases-loop-index
decreases-loop-index g l = l.most - l.index
