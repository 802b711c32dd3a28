-- What items are by their kinds.
use Rattle.std.proofs.Common.{◌≡◌, ◌≢◌, ℕ, List, Some, None, refl, unwrap_or}
use Rattle.keyed_tree.specs.Data.{PlainKey}
use Rattle.archive_tree.specs.Data.{Stamp, PlainNode, inner_node, leaf_node}
use Rattle.record_parts.specs.declared.views.BodyView.{BodyView}
use Rattle.record_parts.specs.declared.views.StampView.{StampView}
use Rattle.record_format.specs.Nodes.{set_in}
use Rattle.record_cursor.specs.Items.{PlainItem, inner_item, leaf_item, alt_item, end_item}
use Rattle.record_cursor.specs.View.{shown_item}
use Rattle.record_cursor.specs.declared.item.Item.{Item}
use Rattle.record_cursor.specs.declared.item.Item.TheVariants.{Inner, Leaf, Alt, LeafEnd, End, Finish}

pub not-alt : (item : Item) → ((s : StampView) (b : BodyView) → item ≢ Alt s b) → (st : Stamp) (b : PlainKey) → shown_item item ≢ alt_item st b
not-alt (Alt s b) h st d = absurd (h s b refl)
not-alt (Inner l s) h st d = λ e. absurd cc
not-alt (Leaf l s) h st d = λ e. absurd cc
not-alt LeafEnd h st d = λ e. absurd cc
not-alt (End n) h st d = λ e. absurd cc
not-alt Finish h st d = λ e. absurd cc

-- what a node opens with
abbrev pub first : PlainNode → PlainItem
first (inner_node l st ks) = inner_item l st
first (leaf_node l st xs) = leaf_item l st

pub not-first : (k : PlainNode) (n : ℕ) → end_item n ≢ first k
not-first (inner_node l st ks) n = λ e. absurd cc
not-first (leaf_node l st xs) n = λ e. absurd cc

pub set-is : (s : Stamp) (parent : List (ℕ × ℕ)) → set_in s parent ≡ unwrap_or s parent
set-is None parent = refl
set-is (Some t) parent = refl
