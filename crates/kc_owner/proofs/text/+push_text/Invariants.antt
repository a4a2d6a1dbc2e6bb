use Rattle.kc_owner.proofs.text.+push_text.Given as goal

abbrev pub decreases-push_text : goal.decreases-push_text
decreases-push_text g l = l.left
