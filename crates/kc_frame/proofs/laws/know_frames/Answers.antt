use Rattle.kc_frame.proofs.FrameLaws.{blocks_stand, none_missed}
use Rattle.kc_frame.proofs.laws.know_frames.Goals as goal

pub returns-clause-stand : goal.returns-clause-stand
returns-clause-stand c = blocks_stand

pub returns-clause-none : goal.returns-clause-none
returns-clause-none c = none_missed
