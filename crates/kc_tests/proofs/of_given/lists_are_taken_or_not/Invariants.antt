use Rattle.kc_tests.proofs.of_given.lists_are_taken_or_not.Given as goal

abbrev pub ghosts-cache_told : goal.ghosts-cache_told
ghosts-cache_told g a = record { name = a.blank.name; parts = a.blank.parts }

abbrev pub ghosts-tasks_told : goal.ghosts-tasks_told
ghosts-tasks_told g a = record { name = a.blank.name; parts = a.blank.parts }
