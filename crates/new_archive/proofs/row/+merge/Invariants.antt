use Rattle.std.proofs.Common.{◌≡◌, ◌+◌, ◌≤◌, ◌++◌, IsTrue, drop, length, map, take, vec_len}
use Rattle.keyed_tree.specs.Data.{kids_from}
use Rattle.keyed_tree.specs.Kids.{ascend, are_ordered}
use Rattle.keyed_tree.specs.Lists.{Ascends}
use Rattle.keyed_tree.specs.Order.{label_cmp}
use Rattle.keyed_parts.specs.View.{kid_view, kids_view}
use Rattle.new_archive.specs.Full.{full_label, fulls_from}
use Rattle.new_archive.specs.Place.{added_list}
use Rattle.new_archive.specs.Ready.{AreReady}
use Rattle.new_archive.specs.View.{fresh_view, row_view}
use Rattle.new_archive.specs.Woven.{ArePlaced, woven}
use Rattle.new_archive.proofs.Sizes.{tree_size, list_size}
use Rattle.new_archive.proofs.row.+merge.Given as goal

-- the nodes that are done, new ones among them, and those that are left with the kids that are left, are the whole
abbrev pub invariant-merge_kids-loop-kid : goal.invariant-merge_kids-loop-kid
invariant-merge_kids-loop-kid l =
    let row = row_view l.row.items in
    let fs = fresh_view l.fresh.items in
    record {
      smaller : list_size (kids_view l.left) ≤ list_size (kids_view l.fn.new);
      place : l.from ≤ vec_len l.row;
      placed : ArePlaced 0 l.from fs;
      ready : AreReady l.n (fulls_from (drop l.from row));
      rising : Ascends label_cmp (map full_label (drop l.from row));
      ascending : IsTrue (ascend (kids_from (kids_view l.left)));
      ordered : IsTrue (are_ordered (kids_from (kids_view l.left)));
      whole : woven 0 (take l.from row) fs ++ added_list l.n (drop l.from row) (kids_view l.left) ≡ added_list l.n (row_view l.fn.row.items) (kids_view l.fn.new);
    }

abbrev pub decreases-merge_kids-loop-kid : goal.decreases-merge_kids-loop-kid
decreases-merge_kids-loop-kid l = length (kids_view l.left)

abbrev pub decreases-merge_kids : goal.decreases-merge_kids
decreases-merge_kids l = list_size (kids_view l.new)

abbrev pub decreases-put_kid : goal.decreases-put_kid
decreases-put_kid l = 3 + tree_size (kid_view l.kid)

abbrev pub decreases-merge_at : goal.decreases-merge_at
decreases-merge_at l = 2 + tree_size (kid_view l.kid)

abbrev pub decreases-merge_node : goal.decreases-merge_node
decreases-merge_node l = 1 + tree_size (kid_view l.new)
