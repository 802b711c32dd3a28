use Rattle.timestamp_tree.proofs.put.+put_copies.Given as goal

abbrev pub decreases-put_copies : goal.decreases-put_copies
decreases-put_copies l = l.count
