use Rattle.std.proofs.Common.{◌≡◌, ◌++◌, drop, vec_len}
use Rattle.kc_outside.specs.declared.store.Slot.TheVariants.{Dump}
use Rattle.kc_outside.specs.Files.{content}
use Rattle.kc_elf.specs.Stays.{StoreStays}
use Rattle.kc_sight.specs.Refs.Holding.{in_segments}
use Rattle.kc_sight.specs.Refs.Stops.{Told}
use Rattle.kc_sight.proofs.refs.search.find_words.Given as goal

-- the store as it was, but for its calls; and what is found in the segments so far
abbrev pub invariant-loop-segment : goal.invariant-loop-segment
invariant-loop-segment g l = record {
  length : vec_len l.block ≡ 65536;
  found : Told (content (g.S.Store.files l.initial.store) Dump (g.S.Store.opened l.initial.store Dump)) (λ bytes.
      l.found.items ++ in_segments l.sought bytes (drop l.segment-index l.segments) ≡ in_segments l.sought bytes l.segments);
  stays : StoreStays g.S.Store.opened g.S.Store.sizes g.S.Store.files g.S.Store.may g.S.Store.asked l.initial.store l.store;
  quiet : g.S.Store.faults l.store ≡ g.S.Store.faults l.initial.store;
}
