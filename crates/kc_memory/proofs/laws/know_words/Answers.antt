use Rattle.kc_memory.proofs.HeldLaws.{found_is_held}
use Rattle.kc_memory.proofs.WordLaws.{words_stand_first, tails_are_zero, absent_where_none}
use Rattle.kc_memory.proofs.laws.know_words.Goals as goal

pub returns-clause-first : goal.returns-clause-first
returns-clause-first c = words_stand_first

pub returns-clause-tail : goal.returns-clause-tail
returns-clause-tail c = tails_are_zero

pub returns-clause-absent : goal.returns-clause-absent
returns-clause-absent c = absent_where_none

pub returns-clause-held : goal.returns-clause-held
returns-clause-held c = found_is_held
