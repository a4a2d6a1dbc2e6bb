use Rattle.kc_sight.proofs.entries.+push_entries.Given as goal

abbrev pub decreases-push_entries : goal.decreases-push_entries
decreases-push_entries g l = l.level
