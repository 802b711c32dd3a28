-- The items that come next in a row.
use Rattle.std.specs.Prelude.{⊤, Option, IsSome}
use Rattle.keyed_tree.specs.Data.{PlainLabel}
use Rattle.archive_tree.specs.View.{stamp_view}
use Rattle.record_parts.specs.Bounds.{IsStamp}
use Rattle.record_parts.specs.ShownViews.{label_in}
use Rattle.record_cursor.specs.Items.{PlainItem, inner_item, leaf_item, alt_item, leaf_end_item, end_item, finish}
use Rattle.node_walk.specs.declared.next.Next.{Next}
use Rattle.node_walk.specs.declared.next.Next.TheVariants.{Inner, Leaf, End}

-- the item, where its label is the one that is kept
abbrev pub next_view : Option PlainLabel → Next → PlainItem
next_view l (Inner s) = inner_item (label_in l) (stamp_view s)
next_view l (Leaf s) = leaf_item (label_in l) (stamp_view s)
next_view l (End n) = end_item n

-- the label of a node is kept
abbrev pub HasLabel : Option PlainLabel → Next → Type 0
HasLabel l (Inner s) = IsSome l
HasLabel l (Leaf s) = IsSome l
HasLabel l (End n) = ⊤

-- the set that an inner node stores has an encoding
abbrev pub HasStamp : Next → Type 0
HasStamp (Inner s) = IsStamp (stamp_view s)
HasStamp (Leaf s) = ⊤
HasStamp (End n) = ⊤

-- the item never comes in a row
abbrev pub IsBesides : PlainItem → Type 0
IsBesides (inner_item l s) = ⊥
IsBesides (leaf_item l s) = ⊥
IsBesides (alt_item s b) = ⊤
IsBesides leaf_end_item = ⊤
IsBesides (end_item n) = ⊥
IsBesides finish = ⊤
