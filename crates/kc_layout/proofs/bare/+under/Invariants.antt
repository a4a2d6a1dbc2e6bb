use Rattle.kc_layout.proofs.bare.+under.Given as goal

abbrev pub decreases-under : goal.decreases-under
decreases-under l = l.most
