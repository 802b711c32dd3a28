use Rattle.std.proofs.Common.{◌≡◌, ◌+◌, ap, drop, get_or, [], true, false}
use Rattle.std.specs.Cow.{cow_str_bytes}
use Rattle.std.specs.Str.{bytes_eq}
use Rattle.jsonml_tree.specs.Data.{tree}
use Rattle.jsonml_tree.specs.LentView.{only_text, lent_tree_view, lent_row_view, lent_items_view}
use Rattle.jsonml_tree.proofs.LentTrees.{lent_tree_view-Leaf, lent_tree_view-Elem}
use Rattle.key_spec.specs.View.{path_view}
use Rattle.key_rules.specs.Few.{several_keys, few, join, reached_view, values_among}
use Rattle.key_rules.proofs.Nodes.{join-none, join_assoc, among-split, among-nil, among-child, among-other}
use Rattle.key_rules.proofs.Rows.{row-more, row-end, tag-at}
use Rattle.key_rules.proofs.node.+nodes.Goals as goal

pub nodes_among-returns-in-Several : goal.nodes_among-returns-in-Several
nodes_among-returns-in-Several t c =
    let p = path_view c.args.path.now in
    let more : lent_items_view (drop c.loop-item.item-index c.args.items.now) ≡ tree (lent_tree_view c.item-item.result) (lent_items_view (drop (c.loop-item.item-index + 1) c.args.items.now)) = row-more lent_tree_view c.args.items.now c.loop-item.item-index c.item-item.result c.loop-item-test.true c.item-item.is in
    let split = among-split p c.args.level (lent_tree_view c.item-item.result) (lent_items_view (drop (c.loop-item.item-index + 1) c.args.items.now)) in
    let assoc = join_assoc (reached_view c.loop-item.nodes) (reached_view c.nodes_in.result) (few (values_among p c.args.level (lent_items_view (drop (c.loop-item.item-index + 1) c.args.items.now)))) in
    let rest = few (values_among p c.args.level (lent_items_view (drop (c.loop-item.item-index + 1) c.args.items.now))) in
    let stopped : reached_view c.and-nodes.result ≡ several_keys = ap reached_view c.in-Several.is in
    let stays : join several_keys rest ≡ several_keys = λ i. several_keys in
    cc

pub nodes_among-loop-item-preserved : goal.nodes_among-loop-item-preserved
nodes_among-loop-item-preserved t c =
    let p = path_view c.args.path.now in
    let more : lent_items_view (drop c.loop-item.item-index c.args.items.now) ≡ tree (lent_tree_view c.item-item.result) (lent_items_view (drop (c.loop-item.item-index + 1) c.args.items.now)) = row-more lent_tree_view c.args.items.now c.loop-item.item-index c.item-item.result c.loop-item-test.true c.item-item.is in
    let split = among-split p c.args.level (lent_tree_view c.item-item.result) (lent_items_view (drop (c.loop-item.item-index + 1) c.args.items.now)) in
    let assoc = join_assoc (reached_view c.loop-item.nodes) (reached_view c.nodes_in.result) (few (values_among p c.args.level (lent_items_view (drop (c.loop-item.item-index + 1) c.args.items.now)))) in
    cc

pub nodes_among-returns : goal.nodes_among-returns
nodes_among-returns t c =
    let p = path_view c.args.path.now in
    let end = row-end lent_tree_view c.args.items.now c.loop-item.item-index c.loop-item-test.false in
    let nil = among-nil p c.args.level in
    let none = join-none (reached_view c.loop-item.nodes) in
    cc

pub nodes_in-returns-then-eq : goal.nodes_in-returns-then-eq
nodes_in-returns-then-eq t c =
    let p = path_view c.args.path.now in
    let tag = tag-at c.args.path.now.tags.items c.args.level c.index.result.now c.requires c.index.ensures in
    let view = ap lent_tree_view c.in-Leaf.is in
    let shape = lent_tree_view-Leaf c.in-Leaf.own c.in-Leaf.text in
    let test : bytes_eq (cow_str_bytes c.in-Leaf.own) (get_or p.tags c.args.level []) ≡ true = cc (c.as_str-tag.ensures.value, c.as_str.ensures.value, c.eq.ensures, c.if-eq.true) in
    let found = among-child p c.args.level (cow_str_bytes c.in-Leaf.own) (only_text (cow_str_bytes c.in-Leaf.text)) test in
    cc

pub nodes_in-returns-else-eq : goal.nodes_in-returns-else-eq
nodes_in-returns-else-eq t c =
    let p = path_view c.args.path.now in
    let tag = tag-at c.args.path.now.tags.items c.args.level c.index.result.now c.requires c.index.ensures in
    let view = ap lent_tree_view c.in-Leaf.is in
    let shape = lent_tree_view-Leaf c.in-Leaf.own c.in-Leaf.text in
    let test : bytes_eq (cow_str_bytes c.in-Leaf.own) (get_or p.tags c.args.level []) ≡ false = cc (c.as_str-tag.ensures.value, c.as_str.ensures.value, c.eq.ensures, c.if-eq.false) in
    let found = among-other p c.args.level (cow_str_bytes c.in-Leaf.own) (only_text (cow_str_bytes c.in-Leaf.text)) test in
    cc

pub nodes_in-returns-then-eq-2 : goal.nodes_in-returns-then-eq-2
nodes_in-returns-then-eq-2 t c =
    let p = path_view c.args.path.now in
    let tag = tag-at c.args.path.now.tags.items c.args.level c.index.result.now c.requires c.index.ensures in
    let view = ap lent_tree_view c.in-Elem.is in
    let shape = lent_tree_view-Elem c.in-Elem.own c.in-Elem.row in
    let test : bytes_eq (cow_str_bytes c.in-Elem.own) (get_or p.tags c.args.level []) ≡ true = cc (c.as_str-tag.ensures.value, c.as_str-in-Elem.ensures.value, c.eq-in-Elem.ensures, c.if-eq-2.true) in
    let found = among-child p c.args.level (cow_str_bytes c.in-Elem.own) (lent_row_view c.in-Elem.row) test in
    cc

pub nodes_in-returns-else-eq-2 : goal.nodes_in-returns-else-eq-2
nodes_in-returns-else-eq-2 t c =
    let p = path_view c.args.path.now in
    let tag = tag-at c.args.path.now.tags.items c.args.level c.index.result.now c.requires c.index.ensures in
    let view = ap lent_tree_view c.in-Elem.is in
    let shape = lent_tree_view-Elem c.in-Elem.own c.in-Elem.row in
    let test : bytes_eq (cow_str_bytes c.in-Elem.own) (get_or p.tags c.args.level []) ≡ false = cc (c.as_str-tag.ensures.value, c.as_str-in-Elem.ensures.value, c.eq-in-Elem.ensures, c.if-eq-2.false) in
    let found = among-other p c.args.level (cow_str_bytes c.in-Elem.own) (lent_row_view c.in-Elem.row) test in
    cc
