use Rattle.kc_tests.proofs.of_cert.steps_fit_or_not.Given as goal

abbrev pub ghosts-answer : goal.ghosts-answer
ghosts-answer g a = record { name = a.blank.name; parts = a.blank.parts }
