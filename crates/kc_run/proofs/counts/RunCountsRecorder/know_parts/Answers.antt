use Rattle.kc_run.specs.declared.counts.RunCounts.{RunCounts}
use Rattle.kc_run.specs.Parts.{Tallied}
use Rattle.kc_run.proofs.Parts.{of_part}
use Rattle.kc_run.proofs.Tallying.{tallied}
use Rattle.kc_run.proofs.counts.RunCountsRecorder.know_parts.Goals as goal

pub returns : goal.returns
returns c = of_part (λ (x : RunCounts). x.counts) Tallied tallied
