-- Where a cursor stands among the nodes of a file, and which items may come there.
use Rattle.std.specs.Prelude.{ℕ, zero, suc, List, [], ◌∷◌, Option, Some, None, nat_lt, if◌then◌else◌}
use Rattle.xa_fields.specs.Reading.{◌>>=◌}
use Rattle.record_parts.specs.Bounds.{deepest}
use Rattle.record_cursor.specs.Items.{PlainItem, inner_item, leaf_item, alt_item, leaf_end_item, end_item, finish}

-- Among nodes, below so many inner nodes that are open, the virtual root not counted; in a leaf below so many; behind the END of
-- the root, whose body has this length; or behind the end of the file.
pub data Standing : Type 0 where
  among_nodes : ℕ → Standing
  in_leaf : ℕ → Standing
  behind_root : ℕ → Standing
  finished : Standing

-- behind the END of the last node that is open, which is the root where no inner node is
abbrev pub closed_by : ℕ → ℕ → Standing
closed_by n zero = behind_root n
closed_by n (suc depth) = among_nodes depth

abbrev pub after_in_nodes : ℕ → PlainItem → Option Standing
after_in_nodes depth (inner_item l s) = if nat_lt depth deepest then Some (among_nodes (suc depth)) else None
after_in_nodes depth (leaf_item l s) = Some (in_leaf depth)
after_in_nodes depth (alt_item s b) = None
after_in_nodes depth leaf_end_item = None
after_in_nodes depth (end_item n) = Some (closed_by n depth)
after_in_nodes depth finish = None

abbrev pub after_in_leaf : ℕ → PlainItem → Option Standing
after_in_leaf depth (inner_item l s) = None
after_in_leaf depth (leaf_item l s) = None
after_in_leaf depth (alt_item s b) = Some (in_leaf depth)
after_in_leaf depth leaf_end_item = Some (among_nodes depth)
after_in_leaf depth (end_item n) = None
after_in_leaf depth finish = None

abbrev pub after_last : PlainItem → Option Standing
after_last (inner_item l s) = None
after_last (leaf_item l s) = None
after_last (alt_item s b) = None
after_last leaf_end_item = None
after_last (end_item n) = None
after_last finish = Some finished

-- where the cursor stands behind the item, if the item may come where it stands
abbrev pub after_item : Standing → PlainItem → Option Standing
after_item (among_nodes depth) i = after_in_nodes depth i
after_item (in_leaf depth) i = after_in_leaf depth i
after_item (behind_root n) i = after_last i
after_item finished i = after_last i

-- where it stands behind some items, if they may come one after another
abbrev pub after_items : Standing → List PlainItem → Option Standing
after_items s [] = Some s
after_items s (i ∷ is) = after_item s i >>= λ t. after_items t is
