use Rattle.file_get.proofs.sets.+search_pairs.Given as goal

-- so many intervals are left
abbrev pub decreases-search_pairs : goal.decreases-search_pairs
decreases-search_pairs g l = l.count
