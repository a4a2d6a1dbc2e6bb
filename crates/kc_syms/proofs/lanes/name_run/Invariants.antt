use Rattle.std.proofs.Common.{◌≡◌, ◌-◌, ◌≤◌, true, length, take}
use Rattle.std.specs.List.{list_all}
use Rattle.kc_syms.specs.Rows.{is_name_byte}
use Rattle.kc_syms.proofs.lanes.name_run.Given as goal

-- the bytes so far are ones of a name
abbrev pub invariant-loop-seen : goal.invariant-loop-seen
invariant-loop-seen l = (l.seen ≤ length l.text) × (list_all is_name_byte (take l.seen l.text) ≡ true)

abbrev pub decreases-loop-seen : goal.decreases-loop-seen
decreases-loop-seen l = length l.text - l.seen
