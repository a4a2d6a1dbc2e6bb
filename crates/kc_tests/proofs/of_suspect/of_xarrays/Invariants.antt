use Rattle.kc_tests.proofs.of_suspect.of_xarrays.Given as goal

abbrev pub ghosts-told : goal.ghosts-told
ghosts-told g a = record { name = a.blank.name; parts = a.blank.parts }
