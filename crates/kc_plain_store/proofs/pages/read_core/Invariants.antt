use Rattle.std.proofs.Common.{◌≡◌, ℕ, ◌-◌, ◌≤◌, List, length, take, drop, All, IfSome}
use Rattle.kc_outside.specs.declared.store.Slot.TheVariants.{Dump}
use Rattle.kc_outside.specs.Files.{content}
use Rattle.kc_kdump.specs.Stays.{StoreStays}
use Rattle.kc_plain_store.specs.Kept.{IsKept}
use Rattle.kc_plain_store.specs.Shapes.{core_bytes}
use Rattle.kc_plain_store.proofs.pages.read_core.Given as goal

-- the store as it was, but for its counts; pages are kept; and the first bytes are there
abbrev pub invariant-loop-done : goal.invariant-loop-done
invariant-loop-done g l = record {
  stays : StoreStays g.S.Store.opened g.S.Store.sizes g.S.Store.files g.S.Store.may g.S.Store.asked l.initial.store l.store;
  quiet : g.S.Store.faults l.store ≡ g.S.Store.faults l.initial.store;
  kept : All (IsKept (content (g.S.Store.files l.initial.store) Dump (g.S.Store.opened l.initial.store Dump)) l.core.layout) l.kept.places.items;
  within : l.done ≤ length l.buf;
  long : length l.buf ≡ length l.initial.buf;
  part : IfSome (content (g.S.Store.files l.initial.store) Dump (g.S.Store.opened l.initial.store Dump))
      (λ bytes. take l.done l.buf ≡ take l.done (drop l.off (core_bytes l.core bytes)));
}

abbrev pub decreases-loop-done : goal.decreases-loop-done
decreases-loop-done g l = length l.buf - l.done
