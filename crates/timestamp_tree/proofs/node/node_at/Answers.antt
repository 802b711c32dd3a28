use Rattle.std.proofs.lemmas.Grind.{common_steps}
use Rattle.std.proofs.Common.{ℕ, ◌∙◌, subst, arith}
use Rattle.std.proofs.lemmas.Result.{IfOk-weaker}
use Rattle.version_set.specs.View.{pairs_of}
use Rattle.xa_outside.specs.Numbers.{PullsAtMost}
use Rattle.timestamp_tree.proofs.Stored.{size_is}
use Rattle.timestamp_tree.proofs.node.node_at.Goals as goal

pub returns-clause-size : goal.returns-clause-size
returns-clause-size g c = IfOk-weaker c.read_node.result _ _ (λ node e. e ∙ size_is (pairs_of node.set) node.left) c.read_node.ensures.size

pub returns-clause-only : goal.returns-clause-only
returns-clause-only g c = λ files rest set left told stands.
    subst (λ (n : ℕ). PullsAtMost n (g.F.Folder.numbers c.args.folder.now) (g.F.Folder.numbers c.read_node.new.folder)) (size_is set left) (c.read_node.ensures.only files rest set left told stands)

pub returns-clause-steps : goal.returns-clause-steps
returns-clause-steps g c = grind (arith, common_steps)

pub returns-clause-within : goal.returns-clause-within
returns-clause-within g c = grind (arith, common_steps)

pub returns-clause-files : goal.returns-clause-files
returns-clause-files g c = grind (arith, common_steps)

pub returns-clause-draft : goal.returns-clause-draft
returns-clause-draft g c = grind (arith, common_steps)

pub returns-clause-numbers : goal.returns-clause-numbers
returns-clause-numbers g c = grind (arith, common_steps)

pub returns-clause-pulls : goal.returns-clause-pulls
returns-clause-pulls g c = grind (arith, common_steps)

pub returns-clause-later : goal.returns-clause-later
returns-clause-later g c = grind (arith, common_steps)

pub returns-clause-cause : goal.returns-clause-cause
returns-clause-cause g c = grind (arith, common_steps)

pub returns-clause-told : goal.returns-clause-told
returns-clause-told g c = grind (arith, common_steps)
