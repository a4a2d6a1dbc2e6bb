use Rattle.kc_tests.proofs.of_cert.a_certificate_is_made_of_a_clean_dump.Given as goal

abbrev pub ghosts-certified : goal.ghosts-certified
ghosts-certified g a = record { name = a.blank.name; parts = a.blank.parts }
