use Rattle.std.proofs.Common.{◌≡◌, ◌++◌, drop}
use Rattle.std.specs.Prelude.{IfSome}
use Rattle.kc_memory.specs.Stays.{SpaceStays}
use Rattle.kc_text.specs.Compose.{texts}
use Rattle.kc_cause.specs.Explained.{leads_to}
use Rattle.kc_cause.specs.Judged.{over_plan}
use Rattle.kc_cause.specs.Lines.{word_line}
use Rattle.kc_cause.proofs.repairs.push_words.Given as goal

-- what was added, and what is still to come, are the whole
abbrev pub invariant-loop-i : goal.invariant-loop-i
invariant-loop-i g l = record {
  added : IfSome (g.M.Space.image l.fn.memory) (λ image. l.text.items ++ texts (word_line (leads_to (over_plan l.over image))) (drop l.i l.words) ≡ l.fn.text.items ++ texts (word_line (leads_to (over_plan l.over image))) l.words);
  stays : SpaceStays g.M.Space.image g.M.Space.files g.M.Space.through g.M.Space.most l.fn.memory l.memory;
  quiet : g.M.Space.faults l.memory ≡ g.M.Space.faults l.fn.memory;
}
