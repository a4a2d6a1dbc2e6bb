use Rattle.kc_page.proofs.tables.+descend.Given as goal

abbrev pub decreases-descend : goal.decreases-descend
decreases-descend g l = l.level
