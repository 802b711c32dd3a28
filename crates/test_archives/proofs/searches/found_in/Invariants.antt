use Rattle.test_archives.proofs.searches.found_in.Given as goal

abbrev pub ghosts-answers_of : goal.ghosts-answers_of
ghosts-answers_of a = record { name = a.blank.name; parts = a.blank.parts }
