use Rattle.kc_tests.proofs.of_shape.lists_are_shapes_or_not.Given as goal

abbrev pub ghosts-answers : goal.ghosts-answers
ghosts-answers g a = record { name = a.blank.name; parts = a.blank.parts }

abbrev pub ghosts-numbers_by : goal.ghosts-numbers_by
ghosts-numbers_by g a = record { name = a.blank.name; parts = a.blank.parts }
