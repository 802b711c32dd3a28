use Rattle.real_objects.proofs.draft.Draft.append_all.Given as goal

abbrev pub decreases-loop-left : goal.decreases-loop-left
decreases-loop-left g l = l.left
