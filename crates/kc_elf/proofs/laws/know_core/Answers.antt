use Rattle.kc_elf.proofs.CoreLaws.{core_segments, core_E9}
use Rattle.kc_elf.proofs.laws.know_core.Goals as goal

pub returns-clause-segments : goal.returns-clause-segments
returns-clause-segments c = core_segments

pub returns-clause-bounds : goal.returns-clause-bounds
returns-clause-bounds c = core_E9
