use Rattle.kc_steps.proofs.Agreeing.{hashes_kept, hashes_walked}
use Rattle.kc_steps.proofs.PidsAgreeing.{pid_lists_are_walked, pids_agree}
use Rattle.kc_steps.proofs.PidsTaking.{pid_lists_are_behind, pid_lists_are_taken}
use Rattle.kc_steps.proofs.laws.know_hash_chains.Goals as goal

pub returns-clause-walked : goal.returns-clause-walked
returns-clause-walked c = λ image. (hashes_walked image, hashes_kept image)

pub returns-clause-pids : goal.returns-clause-pids
returns-clause-pids c = pids_agree

pub returns-clause-pid_lists : goal.returns-clause-pid_lists
returns-clause-pid_lists c = pid_lists_are_walked

pub returns-clause-pids_taken : goal.returns-clause-pids_taken
returns-clause-pids_taken c = pid_lists_are_taken

pub returns-clause-pids_behind : goal.returns-clause-pids_behind
returns-clause-pids_behind c = pid_lists_are_behind
