use Rattle.std.proofs.Common.{map, subst, sym}
use Rattle.jsonml_tree.specs.View.{attr_view, tree_view}
use Rattle.jsonml_tree.proofs.Trees.{content_view-is}
use Rattle.jsonml_text.specs.Kept.{IsContentKept}
use Rattle.jsonml_text.proofs.Keeping.{IsContentKept-parts}
use Rattle.jsonml_text.proofs.read.content_from.Goals as goal

pub returns-clause-kept : goal.returns-clause-kept
returns-clause-kept c =
    subst IsContentKept (sym (content_view-is _)) (IsContentKept-parts (map attr_view c.args.attrs.items) (map tree_view c.args.items.items) c.requires.attrs c.requires.items)
