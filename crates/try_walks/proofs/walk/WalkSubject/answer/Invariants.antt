use Rattle.try_walks.proofs.walk.WalkSubject.answer.Given as goal

abbrev pub ghosts-begin : goal.ghosts-begin
ghosts-begin g a = record { name = a.blank.name; parts = a.blank.parts }
