use Rattle.std.proofs.Common.{◌≡◌, ◌++◌, drop}
use Rattle.std.specs.Prelude.{IfSome}
use Rattle.kc_memory.specs.Stays.{SpaceStays}
use Rattle.kc_text.specs.Compose.{texts}
use Rattle.kc_cause.specs.Explained.{place_told}
use Rattle.kc_cause.specs.Judged.{over_plan}
use Rattle.kc_cause.proofs.places.push_places_told.Given as goal

-- what was added, and what is still to come, are the whole
abbrev pub invariant-loop-i : goal.invariant-loop-i
invariant-loop-i g l = record {
  added : IfSome (g.M.Space.image l.fn.memory) (λ image. l.text.items ++ texts (place_told (over_plan l.over image)) (drop l.i l.places) ≡ l.fn.text.items ++ texts (place_told (over_plan l.over image)) l.places);
  stays : SpaceStays g.M.Space.image g.M.Space.files g.M.Space.through g.M.Space.most l.fn.memory l.memory;
  quiet : g.M.Space.faults l.memory ≡ g.M.Space.faults l.fn.memory;
}
