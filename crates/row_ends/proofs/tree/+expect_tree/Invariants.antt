use Rattle.row_ends.proofs.tree.+expect_tree.Given as goal

abbrev pub decreases-expect_tree : goal.decreases-expect_tree
decreases-expect_tree g l = l.count
