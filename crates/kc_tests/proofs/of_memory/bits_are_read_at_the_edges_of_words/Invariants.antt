use Rattle.kc_tests.proofs.of_memory.bits_are_read_at_the_edges_of_words.Given as goal

abbrev pub ghosts-read : goal.ghosts-read
ghosts-read g a = record { name = a.blank.name; parts = a.blank.parts }
