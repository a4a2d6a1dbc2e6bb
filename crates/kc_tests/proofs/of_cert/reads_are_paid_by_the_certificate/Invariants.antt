use Rattle.kc_tests.proofs.of_cert.reads_are_paid_by_the_certificate.Given as goal

abbrev pub ghosts-answer : goal.ghosts-answer
ghosts-answer g a = record { name = a.blank.name; parts = a.blank.parts }
