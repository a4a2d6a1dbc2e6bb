use Rattle.kc_slab_scan.proofs.ScanLaws.{broken_stand, frames_are_counted, sound_is_of_all}
use Rattle.kc_slab_scan.proofs.laws.know_scans.Goals as goal

pub returns-clause-stand : goal.returns-clause-stand
returns-clause-stand c = broken_stand c.know_slab_pages.ensures.stand

pub returns-clause-counted : goal.returns-clause-counted
returns-clause-counted c = frames_are_counted

pub returns-clause-sound : goal.returns-clause-sound
returns-clause-sound c = sound_is_of_all
