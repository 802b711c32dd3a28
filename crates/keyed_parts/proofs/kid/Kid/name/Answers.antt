use Rattle.std.proofs.Common.{ap, sym, ◌∙◌}
use Rattle.keyed_tree.specs.Data.{tag, label_of}
use Rattle.key_annotate.proofs.LentViews.{lent-tagged}
use Rattle.keyed_parts.specs.View.{kid_view}
use Rattle.keyed_parts.proofs.Names.{named-by-tag}
use Rattle.keyed_parts.proofs.kid.Kid.name.Goals as goal

pub returns-in-Node : goal.returns-in-Node
returns-in-Node c = ap tag c.tag.ensures ∙ named-by-tag _ (lent-tagged c.in-Node.node.now) ∙ ap (λ k. (label_of (kid_view k)).name) (sym c.in-Node.is)
