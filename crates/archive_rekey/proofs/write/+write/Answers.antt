use Rattle.std.proofs.Common.{rules, ◌+◌, [], ◌∷◌, ◌++◌, List, map, take, drop, Ok, Err, sym, ap, ◌∙◌}
use Rattle.version_set.specs.View.{pairs_of}
use Rattle.keyed_tree.specs.View.{label_view}
use Rattle.archive_tree.specs.Data.{inner_node, leaf_node}
use Rattle.archive_tree.specs.View.{stamp_view}
use Rattle.record_writer.specs.Data.{call_end_inner, call_end_leaf, call_inner, call_leaf}
use Rattle.record_writer.specs.View.{writer_view}
use Rattle.record_writer.specs.Walks.{alt_calls, node_calls, row_calls}
use Rattle.spelled_archive.specs.View.{alt_view, node_view, nodes_view}
use Rattle.spelled_archive.specs.declared.node.Alt.{Alt}
use Rattle.spelled_archive.specs.declared.node.SNode.{SNode, the_lemmas}
use Rattle.spelled_archive.proofs.NodeViews.{node_view-Inner, node_view-Leaf}
use Rattle.archive_rekey.specs.Drafted.{Called}
use Rattle.archive_rekey.proofs.Calling.{at-err, called-as, called-fault, called-none, called-one, called-then}
use Rattle.archive_rekey.proofs.WrittenRows.{all-made, and-others, behind-row, both-rows, calls_of_nodes, inner-begun, inner-calls, inner-no_leaf, inner-shaped, leaf-begun, leaf-calls, leaf-shaped, one-more, one-node, shaped-at}
use Rattle.archive_rekey.proofs.write.+write.Goals as goal

-- ---- a row

pub write_row-loop-node-init : goal.write_row-loop-node-init
write_row-loop-node-init g t c = called-none c.args.folder.now (writer_view c.args.writer.now) tt (g.met.F.Folder.metered c.args.folder.now)

pub write_row-write_node-requires : goal.write_row-write_node-requires
write_row-write_node-requires g t c κs within =
    let l = c.loop-node in
    let behind = behind-row (writer_view c.args.writer.now) (writer_view l.writer) (pairs_of c.args.set.now) (nodes_view (take l.node-index c.args.nodes.now)) c.requires.no_leaf l.invariant.holds in
    (search (rules, the_lemmas), (within, (behind.0, shaped-at c.args.nodes.now l.node-index c.node-item.result c.requires.shaped c.loop-node-test.true c.node-item.is)))

pub write_row-loop-node-preserved : goal.write_row-loop-node-preserved
write_row-loop-node-preserved g t c =
    let l = c.loop-node in
    let x = c.node-item in
    let set = pairs_of c.args.set.now in
    let u = writer_view c.args.writer.now in
    let v = writer_view l.writer in
    let w = writer_view c.write_node.new.writer in
    let done = calls_of_nodes set (take l.node-index c.args.nodes.now) in
    let now = calls_of_nodes set (x.result ∷ []) in
    let so = called-as (node_calls set (node_view x.result)) now l.folder c.write_node.new.folder v w (Ok tt) (one-node set x.result) c.in_ok-write_node.ensures in
    called-as (done ++ now) _ c.args.folder.now c.write_node.new.folder u w (Ok tt) (one-more (calls_of_nodes set) (both-rows set) l.node-index c.args.nodes.now x.result c.loop-node-test.true x.is)
    (called-then done now c.args.folder.now l.folder c.write_node.new.folder u v w tt (Ok tt) l.invariant so)

pub write_row-returns-in_err-write_node : goal.write_row-returns-in_err-write_node
write_row-returns-in_err-write_node g t c =
    let f = g.F.Folder in
    let l = c.loop-node in
    let x = c.node-item in
    let set = pairs_of c.args.set.now in
    let u = writer_view c.args.writer.now in
    let v = writer_view l.writer in
    let w = writer_view c.write_node.new.writer in
    let fault = c.in_err-write_node.field-0.0 in
    let done = calls_of_nodes set (take l.node-index c.args.nodes.now) in
    let now = calls_of_nodes set (x.result ∷ []) in
    let rest = calls_of_nodes set (drop (l.node-index + 1) c.args.nodes.now) in
    let so = called-as (node_calls set (node_view x.result)) now l.folder c.write_node.new.folder v w (Err fault) (one-node set x.result) c.in_err-write_node.ensures in
    let both = called-then done now c.args.folder.now l.folder c.write_node.new.folder u v w tt (Err fault) l.invariant so in
    at-err c.from_residual.result fault c.from_residual.ensures.1 (λ r. Called f.files f.draft f.numbers f.faults (calls_of_nodes set c.args.nodes.now) c.args.folder.now c.write_node.new.folder u w r)
    (called-as ((done ++ now) ++ rest) _ c.args.folder.now c.write_node.new.folder u w (Err fault) (and-others (calls_of_nodes set) (both-rows set) l.node-index c.args.nodes.now x.result c.loop-node-test.true x.is)
    (called-fault (done ++ now) rest c.args.folder.now c.write_node.new.folder u w w fault both))

pub write_row-returns : goal.write_row-returns
write_row-returns g t c =
    let l = c.loop-node in
    let set = pairs_of c.args.set.now in
    called-as _ (calls_of_nodes set c.args.nodes.now) c.args.folder.now l.folder (writer_view c.args.writer.now) (writer_view l.writer) (Ok tt)
    (sym (all-made (calls_of_nodes set) (both-rows set) l.node-index c.args.nodes.now c.loop-node-test.false)) l.invariant

-- ---- an inner node

pub write_node-inner-requires-clause-label : goal.write_node-inner-requires-clause-label
write_node-inner-requires-clause-label g t c =
    let i = c.in-Inner in
    (inner-shaped (node_view c.args.node.now) (label_view i.label) (stamp_view i.stamp) (nodes_view i.kids.items) (ap node_view i.is ∙ node_view-Inner i.label i.stamp i.kids) c.requires.shaped).0

pub write_node-returns-in_err-inner-in-Inner : goal.write_node-returns-in_err-inner-in-Inner
write_node-returns-in_err-inner-in-Inner g t c =
    let f = g.F.Folder in
    let i = c.in-Inner in
    let e = c.in_err-inner-in-Inner.ensures in
    let fault = c.in_err-inner-in-Inner.field-0.0 in
    let set = pairs_of c.effective-set.result.now in
    let parent = pairs_of c.args.parent.now in
    let n = node_view c.args.node.now in
    let u = writer_view c.args.writer.now in
    let w = writer_view c.inner.new.self in
    let call = call_inner (label_view i.label) (stamp_view i.stamp) set in
    let rest = row_calls set (nodes_view i.kids.items) ++ call_end_inner ∷ [] in
    let one = called-one {T = Unit} call c.args.folder.now c.inner.new.folder u w (Err fault) (g.met.F.Folder.metered c.args.folder.now) e.folder tt e.too_long in
    at-err c.from_residual.result fault c.from_residual.ensures.1 (λ r. Called f.files f.draft f.numbers f.faults (node_calls parent n) c.args.folder.now c.inner.new.folder u w r)
    (called-as ((call ∷ []) ++ rest) _ c.args.folder.now c.inner.new.folder u w (Err fault) (inner-calls n (label_view i.label) (stamp_view i.stamp) parent set c.effective-set.ensures.pairs (nodes_view i.kids.items) (ap node_view i.is ∙ node_view-Inner i.label i.stamp i.kids))
    (called-fault (call ∷ []) rest c.args.folder.now c.inner.new.folder u w w fault one))

pub write_node-write_row-requires : goal.write_node-write_row-requires
write_node-write_row-requires g t c κs within =
    let i = c.in-Inner in
    let shaped = inner-shaped (node_view c.args.node.now) (label_view i.label) (stamp_view i.stamp) (nodes_view i.kids.items) (ap node_view i.is ∙ node_view-Inner i.label i.stamp i.kids) c.requires.shaped in
    let v = writer_view c.inner.new.self in (
      search (rules, the_lemmas),
      (within, (inner-no_leaf (writer_view c.args.writer.now) v v (label_view i.label) (stamp_view i.stamp) (pairs_of c.effective-set.result.now) c.requires.no_leaf c.in_ok-inner-in-Inner.ensures.after, rw c.deref.ensures.value shaped.2)),
    )

pub write_node-returns-in_err-write_row-in-Inner : goal.write_node-returns-in_err-write_row-in-Inner
write_node-returns-in_err-write_row-in-Inner g t c =
    let f = g.F.Folder in
    let i = c.in-Inner in
    let e = c.in_ok-inner-in-Inner.ensures in
    let fault = c.in_err-write_row-in-Inner.field-0.0 in
    let set = pairs_of c.effective-set.result.now in
    let parent = pairs_of c.args.parent.now in
    let n = node_view c.args.node.now in
    let ks = nodes_view c.deref.result.now in
    let u = writer_view c.args.writer.now in
    let v = writer_view c.inner.new.self in
    let w = writer_view c.write_row.new.writer in
    let call = call_inner (label_view i.label) (stamp_view i.stamp) set in
    let one = called-one {T = Unit} call c.args.folder.now c.inner.new.folder u v (Ok tt) (g.met.F.Folder.metered c.args.folder.now) e.folder e.after e.too_long in
    let row = called-fault (row_calls set ks) (call_end_inner ∷ []) c.inner.new.folder c.write_row.new.folder v w w fault c.in_err-write_row-in-Inner.ensures in
    let r = c.from_residual-in_err-write_row-in-Inner in
    at-err r.result fault r.ensures.1 (λ r. Called f.files f.draft f.numbers f.faults (node_calls parent n) c.args.folder.now c.write_row.new.folder u w r)
    (called-as ((call ∷ []) ++ (row_calls set ks ++ call_end_inner ∷ [])) _ c.args.folder.now c.write_row.new.folder u w (Err fault)
    (inner-calls n (label_view i.label) (stamp_view i.stamp) parent set c.effective-set.ensures.pairs ks (ap node_view i.is ∙ node_view-Inner i.label i.stamp i.kids ∙ ap (λ (xs : List SNode). inner_node (label_view i.label) (stamp_view i.stamp) (nodes_view xs)) (sym c.deref.ensures.value)))
    (called-then (call ∷ []) (row_calls set ks ++ call_end_inner ∷ []) c.args.folder.now c.inner.new.folder c.write_row.new.folder u v w tt (Err fault) one row))

pub write_node-end_inner-requires-clause-no_leaf : goal.write_node-end_inner-requires-clause-no_leaf
write_node-end_inner-requires-clause-no_leaf g t c =
    let i = c.in-Inner in
    let set = pairs_of c.effective-set.result.now in
    let u = writer_view c.args.writer.now in
    let v = writer_view c.inner.new.self in
    let none = inner-no_leaf u v v (label_view i.label) (stamp_view i.stamp) set c.requires.no_leaf c.in_ok-inner-in-Inner.ensures.after in
    (behind-row v (writer_view c.write_row.new.writer) set (nodes_view c.deref.result.now) none c.in_ok-write_row-in-Inner.ensures.holds).0

pub write_node-end_inner-requires-clause-inner : goal.write_node-end_inner-requires-clause-inner
write_node-end_inner-requires-clause-inner g t c =
    let i = c.in-Inner in
    let set = pairs_of c.effective-set.result.now in
    let u = writer_view c.args.writer.now in
    let v = writer_view c.inner.new.self in
    let w = writer_view c.write_row.new.writer in
    let e = c.in_ok-inner-in-Inner.ensures in
    let none = inner-no_leaf u v v (label_view i.label) (stamp_view i.stamp) set c.requires.no_leaf e.after in
    inner-begun u v w (label_view i.label) (stamp_view i.stamp) set e.after (behind-row v w set (nodes_view c.deref.result.now) none c.in_ok-write_row-in-Inner.ensures.holds).1

pub write_node-returns-in_ok-write_row-in-Inner : goal.write_node-returns-in_ok-write_row-in-Inner
write_node-returns-in_ok-write_row-in-Inner g t c =
    let i = c.in-Inner in
    let e = c.in_ok-inner-in-Inner.ensures in
    let d = c.end_inner.ensures in
    let set = pairs_of c.effective-set.result.now in
    let parent = pairs_of c.args.parent.now in
    let n = node_view c.args.node.now in
    let ks = nodes_view c.deref.result.now in
    let u = writer_view c.args.writer.now in
    let v = writer_view c.inner.new.self in
    let w = writer_view c.write_row.new.writer in
    let z = writer_view c.end_inner.new.self in
    let call = call_inner (label_view i.label) (stamp_view i.stamp) set in
    let meter = g.met.F.Folder.metered in
    let one = called-one {T = Unit} call c.args.folder.now c.inner.new.folder u v (Ok tt) (meter c.args.folder.now) e.folder e.after e.too_long in
    let end = called-one call_end_inner c.write_row.new.folder c.end_inner.new.folder w z c.end_inner.result (meter c.write_row.new.folder) d.folder d.after d.too_long in
    let row = called-then (row_calls set ks) (call_end_inner ∷ []) c.inner.new.folder c.write_row.new.folder c.end_inner.new.folder v w z tt c.end_inner.result c.in_ok-write_row-in-Inner.ensures end in
    called-as ((call ∷ []) ++ (row_calls set ks ++ call_end_inner ∷ [])) _ c.args.folder.now c.end_inner.new.folder u z c.end_inner.result
    (inner-calls n (label_view i.label) (stamp_view i.stamp) parent set c.effective-set.ensures.pairs ks (ap node_view i.is ∙ node_view-Inner i.label i.stamp i.kids ∙ ap (λ (xs : List SNode). inner_node (label_view i.label) (stamp_view i.stamp) (nodes_view xs)) (sym c.deref.ensures.value)))
    (called-then (call ∷ []) (row_calls set ks ++ call_end_inner ∷ []) c.args.folder.now c.inner.new.folder c.end_inner.new.folder u v z tt c.end_inner.result one row)

-- ---- a leaf

pub write_node-leaf-requires-clause-label : goal.write_node-leaf-requires-clause-label
write_node-leaf-requires-clause-label g t c =
    let i = c.in-Leaf in
    (leaf-shaped (node_view c.args.node.now) (label_view i.label) (stamp_view i.stamp) (map alt_view i.alts.items) (ap node_view i.is ∙ node_view-Leaf i.label i.stamp i.alts) c.requires.shaped).0

pub write_node-returns-in_err-leaf-in-Leaf : goal.write_node-returns-in_err-leaf-in-Leaf
write_node-returns-in_err-leaf-in-Leaf g t c =
    let f = g.F.Folder in
    let i = c.in-Leaf in
    let e = c.in_err-leaf-in-Leaf.ensures in
    let fault = c.in_err-leaf-in-Leaf.field-0.0 in
    let set = pairs_of c.effective-set-in-Leaf.result.now in
    let parent = pairs_of c.args.parent.now in
    let n = node_view c.args.node.now in
    let xs = map alt_view i.alts.items in
    let u = writer_view c.args.writer.now in
    let w = writer_view c.leaf.new.self in
    let call = call_leaf (label_view i.label) (stamp_view i.stamp) set in
    let rest = alt_calls xs ++ call_end_leaf ∷ [] in
    let one = called-one {T = Unit} call c.args.folder.now c.leaf.new.folder u w (Err fault) (g.met.F.Folder.metered c.args.folder.now) e.folder tt e.too_long in
    let r = c.from_residual-in_err-leaf-in-Leaf in
    at-err r.result fault r.ensures.1 (λ r. Called f.files f.draft f.numbers f.faults (node_calls parent n) c.args.folder.now c.leaf.new.folder u w r)
    (called-as ((call ∷ []) ++ rest) _ c.args.folder.now c.leaf.new.folder u w (Err fault) (leaf-calls n (label_view i.label) (stamp_view i.stamp) parent set c.effective-set-in-Leaf.ensures.pairs xs (ap node_view i.is ∙ node_view-Leaf i.label i.stamp i.alts))
    (called-fault (call ∷ []) rest c.args.folder.now c.leaf.new.folder u w w fault one))

pub write_node-write_alts-requires-clause-leaf : goal.write_node-write_alts-requires-clause-leaf
write_node-write_alts-requires-clause-leaf g t c =
    let i = c.in-Leaf in
    let w = writer_view c.leaf.new.self in
    leaf-begun (writer_view c.args.writer.now) w w (label_view i.label) (stamp_view i.stamp) (pairs_of c.effective-set-in-Leaf.result.now) c.in_ok-leaf-in-Leaf.ensures.after

pub write_node-write_alts-requires-clause-shaped : goal.write_node-write_alts-requires-clause-shaped
write_node-write_alts-requires-clause-shaped g t c =
    let i = c.in-Leaf in
    let shaped = leaf-shaped (node_view c.args.node.now) (label_view i.label) (stamp_view i.stamp) (map alt_view i.alts.items) (ap node_view i.is ∙ node_view-Leaf i.label i.stamp i.alts) c.requires.shaped in
    rw c.deref-in-Leaf.ensures.value shaped.2

pub write_node-returns-in_ok-leaf-in-Leaf : goal.write_node-returns-in_ok-leaf-in-Leaf
write_node-returns-in_ok-leaf-in-Leaf g t c =
    let i = c.in-Leaf in
    let e = c.in_ok-leaf-in-Leaf.ensures in
    let set = pairs_of c.effective-set-in-Leaf.result.now in
    let parent = pairs_of c.args.parent.now in
    let n = node_view c.args.node.now in
    let xs = map alt_view c.deref-in-Leaf.result.now in
    let u = writer_view c.args.writer.now in
    let v = writer_view c.leaf.new.self in
    let z = writer_view c.write_alts.new.writer in
    let call = call_leaf (label_view i.label) (stamp_view i.stamp) set in
    let one = called-one {T = Unit} call c.args.folder.now c.leaf.new.folder u v (Ok tt) (g.met.F.Folder.metered c.args.folder.now) e.folder e.after e.too_long in
    called-as ((call ∷ []) ++ (alt_calls xs ++ call_end_leaf ∷ [])) _ c.args.folder.now c.write_alts.new.folder u z c.write_alts.result
    (leaf-calls n (label_view i.label) (stamp_view i.stamp) parent set c.effective-set-in-Leaf.ensures.pairs xs (ap node_view i.is ∙ node_view-Leaf i.label i.stamp i.alts ∙ ap (λ (ys : List Alt). leaf_node (label_view i.label) (stamp_view i.stamp) (map alt_view ys)) (sym c.deref-in-Leaf.ensures.value)))
    (called-then (call ∷ []) (alt_calls xs ++ call_end_leaf ∷ []) c.args.folder.now c.leaf.new.folder c.write_alts.new.folder u v z tt c.write_alts.result one c.write_alts.ensures)
