use Rattle.std.proofs.Common.{[], ◌∷◌, ◌≡◌, ◌∙◌, ◌++◌, ◌+◌, IfSome, map, get_or, ap, sym, subst, arith}
use Rattle.std.proofs.lemmas.Grind.{common_steps}
use Rattle.std.specs.Option.{option_map}
use Rattle.jsonml_tree.specs.Data.{list_of}
use Rattle.jsonml_tree.specs.LentAttrs.{lent_attr_view}
use Rattle.jsonml_tree.specs.LentView.{lent_tree_view}
use Rattle.keyed_tree.specs.Plain.{attrs_among, items_among}
use Rattle.keyed_tree.specs.View.{label_view}
use Rattle.archive_tree.specs.Data.{node_stamp, nodes_from}
use Rattle.archive_tree.specs.Read.{read_row}
use Rattle.archive_tree.specs.View.{node_view, nodes_view, stamp_view}
use Rattle.jsonml_tree.proofs.LentTrees.{lent_trees}
use Rattle.timestamp_tree.specs.View.{ts_view}
use Rattle.archive_tree.proofs.NodeViews.{node_view-Inner, nodes}
use Rattle.archive_rekey.specs.Index.{IsOver, IsRowIndex, index_view, is_in}
use Rattle.archive_rekey.proofs.Below.{body_below, row_below}
use Rattle.archive_rekey.proofs.IndexLemmas.{all-places, beside-at, inner-row, item-at, left-first, left-rest, node-at, picked, place-there, row-left, row-next, row-picked, within-nodes}
use Rattle.archive_rekey.proofs.LentRows.{row_of}
use Rattle.archive_rekey.proofs.Sizes.{node_size, nodes_size, size-at}
use Rattle.archive_rekey.proofs.lend.+lend.Goals as goal

pub lend_found-returns : goal.lend_found-returns
lend_found-returns t c =
    let l = c.loop-place in
    let kids = read_row c.args.number (c.args.number ∷ []) (nodes_view c.args.nodes.now) in
    let attrs : attrs_among kids ≡ map lent_attr_view l.attrs.items = grind (arith, common_steps) in
    let items : list_of (items_among kids) ≡ map lent_tree_view l.items.items = grind (arith, common_steps) in
    row_of _ (attrs_among kids) (items_among kids) attrs items

pub lend_node-lend_row-requires : goal.lend_node-lend_row-requires
lend_node-lend_row-requires t c =
    let i = c.in-Inner in
    let o = option_map (λ x. index_view x.now) c.args.index in
    let is = ap node_view i.is ∙ node_view-Inner i.label i.stamp i.kids in
    let row = inner-row o (node_view c.args.node.now) (label_view i.label) (stamp_view i.stamp) (map node_view i.kids.items) is c.requires.index in
    let d = c.decreases in
    let size : node_size (node_view c.args.node.now) ≡ 1 + nodes_size (nodes_view c.deref.result.now) = ap node_size is ∙ ap (λ z. 1 + nodes_size (nodes_view z)) (sym c.deref.ensures.value) in
    (omega (arith, size, d), (c.requires.first, subst (λ ks. IsRowIndex o (map node_view ks)) (sym c.deref.ensures.value) row))

pub lend_node-returns-in_ok-row-in-Inner : goal.lend_node-returns-in_ok-row-in-Inner
lend_node-returns-in_ok-row-in-Inner t c = grind (arith, nodes, lent_trees, row_below)

pub lend_node-returns-in_ok-body-in-Leaf : goal.lend_node-returns-in_ok-body-in-Leaf
lend_node-returns-in_ok-body-in-Leaf t c = grind (arith, nodes, lent_trees, body_below)

pub lend_row-lend_found-requires : goal.lend_row-lend_found-requires
lend_row-lend_found-requires t c =
    let ks = map node_view c.args.nodes.now in
    let ss = map node_stamp ks in
    let over = subst (λ o. IfSome o (λ t. IsOver (ts_view t.now) ss)) c.in-Some.is (c.tree_in.ensures ss ks c.requires.index) in
    let d = c.decreases in
    (omega (arith, d), (c.requires.first, (c.requires.index, over)))

pub lend_found-loop-place-init : goal.lend_found-loop-place-init
lend_found-loop-place-init t c =
    let n = c.args.number in
    let ks = map node_view c.args.nodes.now in
    let is = c.deref-place-items.result.now in
    let e = c.deref-place-items.ensures.value ∙ c.in_ok-places.ensures (map node_stamp ks) c.requires.over in
    let row = row-picked n ks is e in
    record {
      left = all-places n ks is e;
      attrs = ap attrs_among row ∙ ap (λ z. map lent_attr_view z ++ attrs_among (read_row n (n ∷ []) (nodes_from (picked ks is)))) (sym c.in_ok-attrs.ensures.items);
      items = ap (λ z. list_of (items_among z)) row ∙ ap (λ z. map lent_tree_view z ++ list_of (items_among (read_row n (n ∷ []) (nodes_from (picked ks is))))) (sym c.in_ok-items.ensures.items);
    }

pub lend_found-lend_node-requires : goal.lend_found-lend_node-requires
lend_found-lend_node-requires t c =
    let n = c.args.number in
    let nodes = c.args.nodes.now in
    let ks = map node_view nodes in
    let is = c.deref-place-items.result.now in
    let p = get_or is c.loop-place.place-index 0 in
    let k = c.index-nodes-place.result in
    let here = left-first n ks is c.loop-place.place-index 0 c.loop-place-test.true c.loop-place.invariant.left in
    let at = node-at n nodes p k c.index-nodes-place.is here in
    let there = place-there n ks p (node_view k) at here in
    let index = beside-at _ (node_view k) (option_map (λ x. index_view x.now) c.beside-within.result) at (c.beside-within.ensures ks c.requires.index) in
    let size = size-at nodes p k (within-nodes n nodes p here) c.index-nodes-place.is in
    let d = c.decreases in
    (omega (arith, size, d), (c.requires.first, (there, index)))

pub lend_found-lend_attr-requires-clause-there : goal.lend_found-lend_attr-requires-clause-there
lend_found-lend_attr-requires-clause-there t c =
    let n = c.args.number in
    let ks = map node_view c.args.nodes.now in
    let is = c.deref-place-items.result.now in
    let k = c.index-nodes-place.result in
    let here = left-first n ks is c.loop-place.place-index 0 c.loop-place-test.true c.loop-place.invariant.left in
    place-there n ks (get_or is c.loop-place.place-index 0) (node_view k) (node-at n c.args.nodes.now (get_or is c.loop-place.place-index 0) k c.index-nodes-place.is here) here

pub lend_found-lend_attr-requires-clause-index : goal.lend_found-lend_attr-requires-clause-index
lend_found-lend_attr-requires-clause-index t c =
    let n = c.args.number in
    let ks = map node_view c.args.nodes.now in
    let is = c.deref-place-items.result.now in
    let k = c.index-nodes-place.result in
    let here = left-first n ks is c.loop-place.place-index 0 c.loop-place-test.true c.loop-place.invariant.left in
    beside-at _ (node_view k) (option_map (λ x. index_view x.now) c.beside-within.result) (node-at n c.args.nodes.now (get_or is c.loop-place.place-index 0) k c.index-nodes-place.is here) (c.beside-within.ensures ks c.requires.index)

pub lend_found-loop-place-preserved : goal.lend_found-loop-place-preserved
lend_found-loop-place-preserved t c =
    let n = c.args.number in
    let ks = map node_view c.args.nodes.now in
    let is = c.deref-place-items.result.now in
    let k = c.index-nodes-place.result in
    let i = c.loop-place.place-index in
    let here = left-first n ks is i 0 c.loop-place-test.true c.loop-place.invariant.left in
    let at = node-at n c.args.nodes.now (get_or is i 0) k c.index-nodes-place.is here in
    let row = row-left n ks is i 0 (node_view k) c.loop-place-test.true at (place-there n ks (get_or is i 0) (node_view k) at here) in
    let attrs = c.loop-place.invariant.attrs ∙ ap (λ z. map lent_attr_view c.loop-place.attrs.items ++ attrs_among z) row in
    let items = c.loop-place.invariant.items ∙ ap (λ z. map lent_tree_view c.loop-place.items.items ++ list_of (items_among z)) row in
    record {
      left = left-rest n ks is i 0 c.loop-place-test.true c.loop-place.invariant.left;
      attrs = grind (arith, common_steps, attrs);
      items = grind (arith, common_steps, items);
    }

pub lend_each-returns : goal.lend_each-returns
lend_each-returns t c =
    let l = c.loop-node in
    let kids = read_row c.args.number (c.args.number ∷ []) (nodes_view c.args.nodes.now) in
    let attrs : attrs_among kids ≡ map lent_attr_view l.attrs.items = grind (arith, common_steps) in
    let items : list_of (items_among kids) ≡ map lent_tree_view l.items.items = grind (arith, common_steps) in
    row_of _ (attrs_among kids) (items_among kids) attrs items

pub lend_each-lend_node-requires : goal.lend_each-lend_node-requires
lend_each-lend_node-requires t c =
    let n = c.args.number in
    let nodes = c.args.nodes.now in
    let l = c.loop-node in
    let k = c.node-item.result in
    let at = item-at nodes l.place l.node-index k l.invariant.at c.loop-node-test.true c.node-item.is in
    let there = ap (is_in n) (sym c.stamp.ensures) ∙ sym c.has_version.ensures ∙ c.if-has_version.true in
    let index = beside-at _ (node_view k) (option_map (λ x. index_view x.now) c.beside-within.result) at (c.beside-within.ensures (map node_view nodes) c.requires.index) in
    let size = size-at nodes l.node-index k c.loop-node-test.true c.node-item.is in
    let d = c.decreases in
    (omega (arith, size, d), (c.requires.first, (there, index)))

pub lend_each-lend_attr-requires-clause-there : goal.lend_each-lend_attr-requires-clause-there
lend_each-lend_attr-requires-clause-there t c =
    ap (is_in c.args.number) (sym c.stamp.ensures) ∙ sym c.has_version.ensures ∙ c.if-has_version.true

pub lend_each-lend_attr-requires-clause-index : goal.lend_each-lend_attr-requires-clause-index
lend_each-lend_attr-requires-clause-index t c =
    let nodes = c.args.nodes.now in
    let l = c.loop-node in
    let k = c.node-item.result in
    beside-at _ (node_view k) (option_map (λ x. index_view x.now) c.beside-within.result) (item-at nodes l.place l.node-index k l.invariant.at c.loop-node-test.true c.node-item.is) (c.beside-within.ensures (map node_view nodes) c.requires.index)

pub lend_each-loop-node-preserved : goal.lend_each-loop-node-preserved
lend_each-loop-node-preserved t c =
    let l = c.loop-node in
    let row = row-next c.args.number c.args.nodes.now l.node-index c.node-item.result c.loop-node-test.true c.node-item.is in
    let attrs = l.invariant.attrs ∙ ap (λ z. map lent_attr_view l.attrs.items ++ attrs_among z) row in
    let items = l.invariant.items ∙ ap (λ z. map lent_tree_view l.items.items ++ list_of (items_among z)) row in
    record {
      at = ap (λ i. i + 1) l.invariant.at;
      attrs = grind (arith, common_steps, attrs);
      items = grind (arith, common_steps, items);
    }
