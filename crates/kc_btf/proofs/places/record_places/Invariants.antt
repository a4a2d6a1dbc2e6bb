use Rattle.std.proofs.Common.{◌≡◌, ◌+◌, ◌-◌, ◌*◌, ◌≤◌, length, map, All}
use Rattle.kc_btf.specs.Records.{places, IsRecord}
use Rattle.kc_btf.proofs.PlaceLemmas.{continues}
use Rattle.kc_btf.proofs.places.record_places.Given as goal

-- the places so far, and those of what is left
abbrev pub invariant-loop-at : goal.invariant-loop-at
invariant-loop-at l = record {
  within : l.at ≤ l.end;
  few : 12 * length l.table.items + l.types ≤ l.at;
  whole : continues (map (λ place. l.types + place) l.table.items) (places (length l.bytes - length l.table.items) l.bytes l.at l.end) ≡ places (length l.bytes) l.bytes l.types l.end;
  found : All (λ place. IsRecord l.bytes (l.types + place)) l.table.items;
}

abbrev pub decreases-loop-at : goal.decreases-loop-at
decreases-loop-at l = l.end - l.at
