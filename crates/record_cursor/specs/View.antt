-- The plain data that headers, cursors and items stand for.
use Rattle.std.specs.Prelude.{ℕ, ◌≤◌, List}
use Rattle.key_spec.specs.Data.{PlainRule}
use Rattle.key_spec.specs.View.{spec_view}
use Rattle.record_parts.specs.Bounds.{most}
use Rattle.record_parts.specs.ShownViews.{shown_label, shown_stamp, shown_body}
use Rattle.record_cursor.specs.Items.{PlainItem, inner_item, leaf_item, alt_item, leaf_end_item, end_item, finish}
use Rattle.record_cursor.specs.Places.{Standing, among_nodes, in_leaf, behind_root, finished}
use Rattle.record_cursor.specs.declared.header.Header.{Header}
use Rattle.record_cursor.specs.declared.item.Item.{Item}
use Rattle.record_cursor.specs.declared.item.Item.TheVariants.{Inner, Leaf, Alt, LeafEnd, End, Finish}
use Rattle.record_cursor.specs.declared.place.Place.{Place}
use Rattle.record_cursor.specs.declared.place.Place.TheVariants as place

pub record PlainHeader : Type 0 where
  pub rules : List PlainRule
  pub versions : ℕ
  pub first : ℕ
  pub length : ℕ

abbrev pub header_view : Header → PlainHeader
header_view h = record { rules = spec_view h.spec; versions = h.versions; first = h.first; length = h.length }

-- the first record begins within the file, and there are at most 999,999 versions
pub record IsHeader (h : PlainHeader) : Type 0 where
  pub within : h.first ≤ h.length
  pub few : h.versions ≤ most

abbrev pub shown_item : Item → PlainItem
shown_item (Inner l s) = inner_item (shown_label l) (shown_stamp s)
shown_item (Leaf l s) = leaf_item (shown_label l) (shown_stamp s)
shown_item (Alt s b) = alt_item (shown_stamp s) (shown_body b)
shown_item LeafEnd = leaf_end_item
shown_item (End n) = end_item n
shown_item Finish = finish

abbrev pub place_view : Place → Standing
place_view (place.Nodes depth) = among_nodes depth
place_view (place.Leaf depth) = in_leaf depth
place_view (place.Tail n) = behind_root n
place_view place.Finished = finished

-- A cursor: the file's name, where the part of it that is read ends, where the cursor stands, and the offset of what comes next.
pub record PlainCursor : Type 0 where
  pub name : List ℕ
  pub length : ℕ
  pub standing : Standing
  pub at : ℕ
