-- What comes in an archive file, seen with its numbers raised.
use Rattle.std.specs.Prelude.{◌≡◌, ℕ, List, [], ◌∷◌, ◌++◌, map, Option}
use Rattle.archive_tree.specs.Data.{PlainNode, inner_node, leaf_node, PlainNodes, no_nodes, node}
use Rattle.xa_outside.specs.Folder.{Files}
use Rattle.record_cursor.specs.Items.{PlainItem, inner_item, leaf_item, alt_item, leaf_end_item, end_item, finish}
use Rattle.record_cursor.specs.Moves.{Comes}
use Rattle.record_cursor.specs.NodeItems.{alt_items}
use Rattle.record_cursor.specs.View.{PlainCursor}
use Rattle.record_copy.specs.Raised.{raised_stamp}

-- an item with its numbers raised; of an END the length is left out, which tells nothing of the nodes
abbrev pub seen : ℕ → PlainItem → PlainItem
seen n (inner_item l s) = inner_item l (raised_stamp n s)
seen n (leaf_item l s) = leaf_item l (raised_stamp n s)
seen n (alt_item s b) = alt_item (raised_stamp n s) b
seen n leaf_end_item = leaf_end_item
seen n (end_item m) = end_item 0
seen n finish = finish

-- These come next in a file that is told, seen with n more in each number.
pub record Coming (n : ℕ) (told : Option Files) (c : PlainCursor) (xs : List PlainItem) : Type 0 where
  pub items : List PlainItem
  pub comes : Comes told c items
  pub are : map (seen n) items ≡ xs

-- ---- what comes of nodes

-- a node opens, then come its alternatives or its kids, and it closes
abbrev mutual
  pub node_items : PlainNode → List PlainItem
  node_items (inner_node l s ks) = inner_item l s ∷ (row_items ks ++ end_item 0 ∷ [])
  node_items (leaf_node l s xs) = leaf_item l s ∷ (alt_items xs ++ leaf_end_item ∷ [])

  pub row_items : PlainNodes → List PlainItem
  row_items no_nodes = []
  row_items (node k ks) = node_items k ++ row_items ks

-- what comes behind the opening of a node
abbrev pub inside_items : PlainNode → List PlainItem
inside_items (inner_node l s ks) = row_items ks ++ end_item 0 ∷ []
inside_items (leaf_node l s xs) = alt_items xs ++ leaf_end_item ∷ []
