use Rattle.std.proofs.Common.{◌∙◌, ◌==◌, length, ap, sym}
use Rattle.version_set.specs.View.{pairs_of}
use Rattle.archive_tree.proofs.Tells.{is_none-members}
use Rattle.node_judge.proofs.stamp.is_empty.Goals as goal

pub returns : goal.returns
returns c = c.is_empty.ensures ∙ ap (λ ps. length ps == 0) c.pairs.ensures ∙ sym (is_none-members (pairs_of c.args.set.now) c.args.set.now.canonical)
