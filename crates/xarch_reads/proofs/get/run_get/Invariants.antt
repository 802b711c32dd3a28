use Rattle.xarch_reads.proofs.get.run_get.Given as goal

abbrev pub ghosts-write_version : goal.ghosts-write_version
ghosts-write_version g a = record { name = a.blank.name; parts = a.blank.parts }
