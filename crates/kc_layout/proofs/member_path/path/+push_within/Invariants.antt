use Rattle.kc_layout.proofs.member_path.path.+push_within.Given as goal

abbrev pub decreases-push_within : goal.decreases-push_within
decreases-push_within l = l.levels
