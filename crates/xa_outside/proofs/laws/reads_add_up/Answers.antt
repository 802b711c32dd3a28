use Rattle.xa_outside.specs.CauseLaws.{Rose-later}
use Rattle.xa_outside.specs.NumberLaws.{PullsAtMost-none, PullsAtMost-more, PullsAtMost-trans}
use Rattle.xa_outside.proofs.laws.reads_add_up.Goals as goal

pub returns-clause-none : goal.returns-clause-none
returns-clause-none c = PullsAtMost-none

pub returns-clause-more : goal.returns-clause-more
returns-clause-more c = PullsAtMost-more

pub returns-clause-both : goal.returns-clause-both
returns-clause-both c = PullsAtMost-trans

pub returns-clause-rose : goal.returns-clause-rose
returns-clause-rose c = Rose-later
