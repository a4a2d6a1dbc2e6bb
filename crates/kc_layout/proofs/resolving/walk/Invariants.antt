use Rattle.std.proofs.Common.{◌≡◌, ◌-◌, nat_eq, length, is_some, true}
use Rattle.kc_layout.specs.Path.{steps_from}
use Rattle.kc_layout.specs.Places.{led, end_of, IsReached}
use Rattle.kc_layout.specs.Views.{place_view}
use Rattle.kc_layout.proofs.resolving.walk.Given as goal

-- from the place so far, what is left of the path leads where the whole does
abbrev pub invariant-loop-taken : goal.invariant-loop-taken
invariant-loop-taken l = record {
  path : is_some (steps_from (256 - l.taken) (nat_eq l.taken 0) l.rest) ≡ true;
  whole : led l.btf l.taken (place_view l.place) (steps_from (256 - l.taken) (nat_eq l.taken 0) l.rest) ≡ end_of l.btf l.id l.path;
  reached : IsReached (length l.btf.records) l.place.spot;
}
