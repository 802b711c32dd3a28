use Rattle.xa_outside.specs.TakenLaws.{Takes-nil, Takes-trans, Takes-kept, TakesNone-refl, TakesPrefix-none, TakesPrefix-all, TakesPrefix-after, TakesPrefix-more}
use Rattle.xa_outside.proofs.laws.writes_add_up.Goals as goal

pub returns-clause-none : goal.returns-clause-none
returns-clause-none c = TakesNone-refl

pub returns-clause-nil : goal.returns-clause-nil
returns-clause-nil c = Takes-nil

pub returns-clause-both : goal.returns-clause-both
returns-clause-both c = Takes-trans

pub returns-clause-kept : goal.returns-clause-kept
returns-clause-kept c = Takes-kept

pub returns-clause-prefix_none : goal.returns-clause-prefix_none
returns-clause-prefix_none c = TakesPrefix-none

pub returns-clause-prefix_all : goal.returns-clause-prefix_all
returns-clause-prefix_all c = TakesPrefix-all

pub returns-clause-prefix_after : goal.returns-clause-prefix_after
returns-clause-prefix_after c = TakesPrefix-after

pub returns-clause-prefix_more : goal.returns-clause-prefix_more
returns-clause-prefix_more c = TakesPrefix-more
