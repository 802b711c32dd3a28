use Rattle.std.proofs.Common.{is_ok}
use Rattle.record_parts.specs.ShownViews.{shown_label}
use Rattle.node_judge.proofs.Kept.{label-put, label-valid}
use Rattle.node_judge.proofs.label.KeptLabel.set.Goals as goal

pub invariant_of-self : goal.invariant_of-self
invariant_of-self c = record {
  valid = label-valid (shown_label c.args.label.now) c.bytes.ensures.is _ _ _ c.clear.ensures.items c.bytes.ensures.spelled (is_ok c.extend_from_slice.result) c.extend_from_slice.ensures.items;
}

pub returns : goal.returns
returns c = label-put (shown_label c.args.label.now) c.bytes.ensures.is _ _ _ c.clear.ensures.items c.bytes.ensures.spelled c.extend_from_slice.result c.extend_from_slice.ensures.items
