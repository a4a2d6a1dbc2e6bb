use Rattle.kc_phys.proofs.PatchLemmas.Laying.{all-keep_length, all-others_stay, keeps-length, last-lies_over, others-stay, reads-back, same-stays}
use Rattle.kc_phys.proofs.patch.laws.know_changes.Goals as goal

pub returns-clause-length : goal.returns-clause-length
returns-clause-length c = keeps-length

pub returns-clause-others : goal.returns-clause-others
returns-clause-others c = others-stay

pub returns-clause-back : goal.returns-clause-back
returns-clause-back c = reads-back

pub returns-clause-same : goal.returns-clause-same
returns-clause-same c = same-stays

pub returns-clause-all_length : goal.returns-clause-all_length
returns-clause-all_length c = all-keep_length

pub returns-clause-all_others : goal.returns-clause-all_others
returns-clause-all_others c = all-others_stay

pub returns-clause-last : goal.returns-clause-last
returns-clause-last c = last-lies_over
