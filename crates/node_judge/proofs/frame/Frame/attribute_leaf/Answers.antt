use Rattle.std.proofs.Common.{◌∙◌, sym}
use Rattle.archive_tree.specs.View.{stamp_view}
use Rattle.record_parts.specs.ShownViews.{shown_label, shown_body}
use Rattle.node_judge.specs.FrameView.{frame_view}
use Rattle.node_judge.proofs.Openings.{no-attribute, some-keys}
use Rattle.node_judge.proofs.frame.Frame.attribute_leaf.Goals as goal

pub returns-then-not-is_empty : goal.returns-then-not-is_empty
returns-then-not-is_empty c =
    let l = shown_label c.args.label.now in
    no-attribute (frame_view c.args.self.now) l (stamp_view c.args.stamp.now) c.requires.name (some-keys shown_body c.args.keys.now l.keys (sym c.is_empty.ensures ∙ c.if-not-is_empty.true) c.requires.keys)
