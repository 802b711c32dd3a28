-- The plain data that what is kept stands for.
use Rattle.std.specs.Prelude.{map, Option}
use Rattle.keyed_tree.specs.Data.{PlainLabel}
use Rattle.key_spec.specs.ContextView.{context_rules, context_path}
use Rattle.version_set.specs.View.{pairs_of}
use Rattle.xa_fields.specs.Reading.{whole}
use Rattle.record_parts.specs.Reading.{label_at}
use Rattle.node_judge.specs.Rows.{PlainFrame, PlainLeaf}
use Rattle.node_judge.specs.View.{wait_view}
use Rattle.node_judge.specs.declared.frame.Frame.{Frame}
use Rattle.node_judge.specs.declared.frame.Leaf.{Leaf}
use Rattle.node_judge.specs.declared.label.KeptLabel.{KeptLabel}

-- the label whose encoding is kept, and none where no bytes are
abbrev pub kept_label : KeptLabel → Option PlainLabel
kept_label kept = whole label_at kept.bytes.items

abbrev pub frame_view : Frame → PlainFrame
frame_view f = record {
  rules = context_rules f.place;
  path = context_path f.place;
  set = pairs_of f.set.now;
  left = f.left;
  waits = map wait_view f.waits.items;
  last = kept_label f.last;
}

abbrev pub leaf_view : Leaf → PlainLeaf
leaf_view h = record { element = h.is_element; set = pairs_of h.set.now; left = h.left; waits = map wait_view h.waits.items }
