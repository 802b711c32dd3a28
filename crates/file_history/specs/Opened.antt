-- What a child is to the label that is wanted.
use Rattle.std.specs.Prelude.{◌≡◌, ℕ, ◌-◌, ◌==◌, List, Option, Some, None, IsTrue, IsSomeAnd, if◌then◌else◌}
use Rattle.std.specs.declared.cmp.Ordering.{Ordering}
use Rattle.std.specs.declared.cmp.Ordering.TheVariants.{Less, Equal, Greater}
use Rattle.keyed_tree.specs.Data.{PlainLabel}
use Rattle.keyed_tree.specs.Order.{label_cmp}
use Rattle.archive_tree.specs.Data.{PlainNode, inner_node, leaf_node}
use Rattle.archive_tree.specs.View.{stamp_view}
use Rattle.xa_outside.specs.Folder.{Files}
use Rattle.record_parts.specs.Bounds.{deepest}
use Rattle.record_format.specs.Bounds.{IsRec}
use Rattle.record_format.specs.Nested.{is_nested}
use Rattle.record_format.specs.Nodes.{set_in, node_piece, node_pieces}
use Rattle.record_format.specs.Probed.{opening}
use Rattle.record_cursor.specs.Items.{PlainItem, inner_item, leaf_item, alt_item, leaf_end_item, end_item, finish}
use Rattle.record_cursor.specs.Moves.{TellsFront}
use Rattle.file_rows.specs.StandsAt.{RowLaid, ChildLaid}
use Rattle.file_rows.specs.View.{PlainChild, row_view, child_view}
use Rattle.file_history.specs.View.{PlainMet, stands_before, stands_behind, met_inner, met_leaf}
use Rattle.file_history.specs.declared.open.Found.{Found}
use Rattle.file_history.specs.declared.open.Opened.{Opened}
use Rattle.file_history.specs.declared.open.Opened.TheVariants.{Before, Behind, Here}

-- what is met, by the order of its label and the label that is wanted
abbrev pub met_by : Ordering → PlainMet → PlainMet
met_by Less m = stands_before
met_by Equal m = m
met_by Greater m = stands_behind

-- what an item is, where it opens a node, whose END has a body of so many bytes; a leaf has none
abbrev pub met_of : ℕ → PlainLabel → PlainItem → Option PlainMet
met_of dir wanted (inner_item l s) = Some (met_by (label_cmp l wanted) (met_inner s))
met_of dir wanted (leaf_item l s) = if dir == 0 then Some (met_by (label_cmp l wanted) (met_leaf s)) else None
met_of dir wanted (alt_item s b) = None
met_of dir wanted leaf_end_item = None
met_of dir wanted (end_item n) = None
met_of dir wanted finish = None

abbrev pub met_node : PlainNode → PlainMet
met_node (inner_node l s ks) = met_inner s
met_node (leaf_node l s xs) = met_leaf s

-- the node's timestamp, and the row of its kids if it is an inner node, or where it stands if it is a leaf, under a parent that has this set
abbrev pub IsFound : List ℕ → List (ℕ × ℕ) → PlainNode → Found → Type 0
IsFound bytes parent (inner_node l s ks) f = (stamp_view f.stamp ≡ s) × IsSomeAnd f.row (λ r. RowLaid bytes (row_view r) (node_pieces (set_in s parent) ks)) × (f.leaf ≡ None)
IsFound bytes parent (leaf_node l s xs) f = (stamp_view f.stamp ≡ s) × (f.row ≡ None) × IsSomeAnd f.leaf (λ c. ChildLaid bytes (child_view c) (node_piece parent (leaf_node l s xs)))

abbrev pub OpenedIs : List ℕ → List (ℕ × ℕ) → PlainNode → Ordering → Opened → Type 0
OpenedIs bytes parent k order Before = order ≡ Less
OpenedIs bytes parent k order Behind = order ≡ Greater
OpenedIs bytes parent k order (Here f) = (order ≡ Equal) × IsFound bytes parent k f

-- A node stands there in the file, whose opening record has an encoding, below so many inner nodes that stand open.
pub record ChildIs (told : Option Files) (name bytes : List ℕ) (depth : ℕ) (child : PlainChild) (parent : List (ℕ × ℕ)) (k : PlainNode) : Type 0 where
  pub size : ℕ
  pub tells : TellsFront told name size bytes
  pub stands : ChildLaid bytes child (node_piece parent k)
  pub opens : IsRec (opening k)
  pub nested : IsTrue (is_nested (deepest - depth) k)
