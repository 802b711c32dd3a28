use Rattle.std.proofs.Common.{sym, ◌∙◌}
use Rattle.archive_join.proofs.Holding.{left_none}
use Rattle.archive_join.proofs.held.not_taken.Goals as goal

pub loop-entry-preserved : goal.loop-entry-preserved
loop-entry-preserved c = (let l = c.loop-entry in l.invariant ∙ sym (left_none l.yielded c.in-Some.entry c.if-not-entry.false))
