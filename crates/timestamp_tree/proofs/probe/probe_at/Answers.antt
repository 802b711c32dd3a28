use Rattle.std.proofs.Common.{ℕ, subst}
use Rattle.xa_outside.specs.Numbers.{PullsAtMost}
use Rattle.timestamp_tree.proofs.Stored.{size_is}
use Rattle.timestamp_tree.proofs.probe.probe_at.Goals as goal

pub returns-clause-only : goal.returns-clause-only
returns-clause-only g c = λ files rest set left told stands.
    subst (λ (n : ℕ). PullsAtMost n (g.F.Folder.numbers c.args.folder.now) (g.F.Folder.numbers c.probe_node.new.folder)) (size_is set left) (c.probe_node.ensures.only files rest set left told stands)
