use Rattle.xarch_reads.proofs.history.run_history.Given as goal

abbrev pub ghosts-versions_by : goal.ghosts-versions_by
ghosts-versions_by g a = record { name = a.blank.name; parts = a.blank.parts }
