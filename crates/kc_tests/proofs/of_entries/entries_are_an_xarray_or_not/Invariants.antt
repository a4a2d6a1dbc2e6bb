use Rattle.kc_tests.proofs.of_entries.entries_are_an_xarray_or_not.Given as goal

abbrev pub ghosts-answer : goal.ghosts-answer
ghosts-answer g a = record { name = a.blank.name; parts = a.blank.parts }

abbrev pub ghosts-made : goal.ghosts-made
ghosts-made g a = record { name = a.blank.name; parts = a.blank.parts }

abbrev pub ghosts-items : goal.ghosts-items
ghosts-items g a = record { name = a.blank.name; parts = a.blank.parts }
