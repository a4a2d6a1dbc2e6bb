use Rattle.kc_memory.proofs.PageLaws.{pages_move_whole}
use Rattle.kc_memory.proofs.laws.know_pages.Goals as goal

pub returns : goal.returns
returns c = pages_move_whole
