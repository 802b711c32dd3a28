use Rattle.xarch_reads.proofs.log.run_log.Given as goal

abbrev pub ghosts-write_log : goal.ghosts-write_log
ghosts-write_log g a = record { name = a.blank.name; parts = a.blank.parts }
