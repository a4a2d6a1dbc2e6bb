use Rattle.std.proofs.Common.{◌≡◌, ◌++◌, drop}
use Rattle.std.specs.Prelude.{IfSome}
use Rattle.kc_memory.specs.Stays.{FramesStay}
use Rattle.kc_mem.specs.Paged.{with_paging}
use Rattle.kc_text.specs.Compose.{texts}
use Rattle.kc_cause.specs.Explained.{cause_lines}
use Rattle.kc_cause.specs.Judged.{over_plan}
use Rattle.kc_cause.proofs.explained.push_causes.Given as goal

-- what was added, and what is still to come, are the whole
abbrev pub invariant-loop-i : goal.invariant-loop-i
invariant-loop-i g l =
    IfSome (with_paging l.over.paging (g.F.Frames.image l.fn.memory))
    (λ image. l.text.items ++ texts (cause_lines (over_plan l.over image)) (drop l.i l.verdicts)
    ≡ l.fn.text.items ++ texts (cause_lines (over_plan l.over image)) l.verdicts)
    × FramesStay g.F.Frames.image g.F.Frames.files g.F.Frames.through l.fn.memory l.memory
    × (g.F.Frames.faults l.memory ≡ g.F.Frames.faults l.fn.memory)
