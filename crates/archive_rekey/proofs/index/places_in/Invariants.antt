use Rattle.archive_rekey.proofs.index.places_in.Given as goal

abbrev pub ghosts-answers_of : goal.ghosts-answers_of
ghosts-answers_of a = record { name = a.blank.name; parts = a.blank.parts }
