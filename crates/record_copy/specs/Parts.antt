-- The plain data of what was read.
use Rattle.keyed_tree.specs.Data.{PlainLabel}
use Rattle.archive_tree.specs.Data.{Stamp, PlainAlt, PlainNode, inner_node, leaf_node}
use Rattle.archive_tree.specs.View.{stamp_view}
use Rattle.xa_fields.specs.Reading.{whole}
use Rattle.record_parts.specs.Reading.{label_at, value_at}
use Rattle.record_parts.specs.ShownViews.{label_in, value_in}
use Rattle.record_cursor.specs.Items.{PlainItem, inner_item, leaf_item}
use Rattle.record_copy.specs.declared.kind.Kind.{Kind}
use Rattle.record_copy.specs.declared.kind.Kind.TheVariants.{Inner, Leaf}
use Rattle.record_copy.specs.declared.parts.Alternative.{Alternative}
use Rattle.record_copy.specs.declared.parts.Head.{Head}

-- A node that opens.
pub record PlainHead : Type 0 where
  pub kind : Kind
  pub label : PlainLabel
  pub stamp : Stamp

abbrev pub head_view : Head → PlainHead
head_view h = record { kind = h.kind; label = label_in (whole label_at h.label.items); stamp = stamp_view h.stamp }

abbrev pub alternative_view : Alternative → PlainAlt
alternative_view a = record { stamp = stamp_view a.stamp; body = value_in (whole value_at a.body.items) }

-- the item by which a node opens
abbrev pub opening_of : Kind → PlainLabel → Stamp → PlainItem
opening_of Inner l s = inner_item l s
opening_of Leaf l s = leaf_item l s

abbrev pub opening : PlainHead → PlainItem
opening h = opening_of h.kind h.label h.stamp

abbrev pub head_of : PlainNode → PlainHead
head_of (inner_node l s ks) = record { kind = Inner; label = l; stamp = s }
head_of (leaf_node l s xs) = record { kind = Leaf; label = l; stamp = s }
