use Rattle.std.proofs.Common.{◌≡◌, ◌≤◌, ◌-◌, ◌++◌, length, IsSome}
use Rattle.std.specs.List.{filter_map}
use Rattle.std.specs.Option.{ForSome}
use Rattle.kc_outside.specs.declared.store.Slot.TheVariants.{Dump}
use Rattle.kc_outside.specs.Files.{content}
use Rattle.kc_elf.specs.Stays.{StoreStays}
use Rattle.kc_sight.specs.Refs.Holding.{IsInside, found_at, places}
use Rattle.kc_sight.specs.Refs.Stops.{Told}
use Rattle.kc_sight.proofs.refs.search.search_segment.Given as goal

-- the store as it was, but for its calls; and what is found among the words so far
abbrev pub invariant-loop-first : goal.invariant-loop-first
invariant-loop-first g l = record {
  within : l.first ≤ l.words;
  length : length l.block ≡ length l.initial.block;
  found : Told (content (g.S.Store.files l.initial.store) Dump (g.S.Store.opened l.initial.store Dump)) (λ bytes.
      l.found.items ≡ l.initial.found.items ++ filter_map (found_at l.sought bytes) (places l.segment 0 l.first));
  stays : StoreStays g.S.Store.opened g.S.Store.sizes g.S.Store.files g.S.Store.may g.S.Store.asked l.initial.store l.store;
  quiet : g.S.Store.faults l.store ≡ g.S.Store.faults l.initial.store;
}

abbrev pub decreases-loop-first : goal.decreases-loop-first
decreases-loop-first g l = l.words - l.first
