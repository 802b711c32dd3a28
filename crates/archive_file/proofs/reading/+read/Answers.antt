use Rattle.std.proofs.Common.{◌≡◌, ℕ, ◌+◌, ◌-◌, ◌^◌, ◌&&◌, ltb, true≢false, List, [], ◌∷◌, ◌++◌, length, unwrap_or, sym, ap, ◌∙◌, map, drop, subst, refl, arith}
use Rattle.std.specs.Prelude.{bytes_eq}
use Rattle.std.proofs.lemmas.List.{map-append, length-map, length-drop, length-append}
use Rattle.std.proofs.lemmas.Slice.Eq.{bytes_eq-Decides}
use Rattle.version_set.specs.View.{pairs_of}
use Rattle.keyed_tree.specs.View.{label_view}
use Rattle.keyed_tree.proofs.Kids.{both}
use Rattle.archive_tree.specs.Data.{Stamp, PlainAlt, PlainNode, PlainNodes, inner_node, leaf_node, nodes_from}
use Rattle.archive_tree.specs.View.{stamp_view, alt_view, node_view, nodes_view}
use Rattle.archive_tree.proofs.NodeViews.{node_view-Inner, node_view-Leaf}
use Rattle.record_parts.specs.Bounds.{IsSet}
use Rattle.record_format.specs.Data.{PlainEntry, PlainDir}
use Rattle.record_format.specs.Nodes.{entries_from, set_in, node_piece}
use Rattle.record_format.specs.Spelling.{dir_bytes, framed}
use Rattle.record_format.specs.View.{entry_view}
use Rattle.archive_file.specs.Laid.{dir_with, NodeAt, RowAt}
use Rattle.archive_file.proofs.FileLaws.{set-in}
use Rattle.archive_file.proofs.GoesLaws.{lt-of}
use Rattle.archive_file.proofs.LaidLaws.{RowLeft, node-none, node-kind, node-inner, node-leaf, row-start, row-frame, row-end, row-node, frame-on, frame-spelled, finds-handed, fails-handed}
use Rattle.archive_file.proofs.PutLaws.{set_in-is, inner-dir, leaf-dir}
use Rattle.archive_file.proofs.ReadLaws.{RowDone, leaf-lies, inner-lies, row-none, row-more, entry-more, dir-is, row-shut, row-closing}
use Rattle.archive_file.proofs.reading.+read.Goals as goal

pub read_node-returns-in_err-rec-clause-found : goal.read_node-returns-in_err-rec-clause-found
read_node-returns-in_err-rec-clause-found t c = λ k rest h.
    finds-handed _ c.from_residual.result c.in_err-rec.field-0.0 c.from_residual.ensures.1 c.in_err-rec.ensures.damage (node-none (pairs_of c.args.parent.now) k rest c.args.depth (drop c.args.at c.args.bytes.now) h)

pub read_node-returns-then-depth-eq0-clause-found : goal.read_node-returns-then-depth-eq0-clause-found
read_node-returns-then-depth-eq0-clause-found t c = λ k rest h. (
    let i = node-inner (pairs_of c.args.parent.now) k rest c.args.depth (drop c.args.at c.args.bytes.now) h (label_view c.in-Inner.label) (stamp_view c.in-Inner.stamp) (drop c.in_ok-rec.next c.args.bytes.now) (rw c.in-Inner.is at c.in_ok-rec.ensures.found) in
    omega (arith, i.some, c.if-depth-eq0.true))

-- the set of the inner node that was opened
own-set : (s : Stamp) (parent set : List (ℕ × ℕ)) → set ≡ unwrap_or s parent → set ≡ set_in s parent
own-set s parent set e = e ∙ set_in-is s parent

pub read_node-read_row-requires : goal.read_node-read_row-requires
read_node-read_row-requires t c =
    let s = stamp_view c.in-Inner.stamp in
    let parent = pairs_of c.args.parent.now in
    let is = rw c.in-Inner.is at c.in_ok-rec.ensures.is in
    (omega arith, subst IsSet (sym (own-set s parent (pairs_of c.effective-set.result.now) c.effective-set.ensures.pairs)) (set-in s parent is.body.1 c.requires))

pub read_node-returns-in_err-kids-in-Inner-clause-found : goal.read_node-returns-in_err-kids-in-Inner-clause-found
read_node-returns-in_err-kids-in-Inner-clause-found t c = λ k rest h. (
    let s = stamp_view c.in-Inner.stamp in
    let parent = pairs_of c.args.parent.now in
    let after = drop c.in_ok-rec.next c.args.bytes.now in
    let i = node-inner parent k rest c.args.depth (drop c.args.at c.args.bytes.now) h (label_view c.in-Inner.label) s after (rw c.in-Inner.is at c.in_ok-rec.ensures.found) in
    let row = subst (λ (z : List (ℕ × ℕ)). RowAt z i.kids rest (c.args.depth - 1) after) (sym (own-set s parent (pairs_of c.effective-set.result.now) c.effective-set.ensures.pairs)) i.row in
    fails-handed _ _ c.from_residual-in_err-kids-in-Inner.result c.in_err-kids-in-Inner.field-0.0 c.from_residual-in_err-kids-in-Inner.ensures.1 (c.in_err-kids-in-Inner.ensures.found i.kids rest row))

pub read_node-returns-in-Inner-clause-found : goal.read_node-returns-in-Inner-clause-found
read_node-returns-in-Inner-clause-found t c = λ k rest h. (
    let l = c.in-Inner.label in
    let s = c.in-Inner.stamp in
    let parent = pairs_of c.args.parent.now in
    let after = drop c.in_ok-rec.next c.args.bytes.now in
    let i = node-inner parent k rest c.args.depth (drop c.args.at c.args.bytes.now) h (label_view l) (stamp_view s) after (rw c.in-Inner.is at c.in_ok-rec.ensures.found) in
    let there = subst (λ (z : List (ℕ × ℕ)). RowAt z i.kids rest (c.args.depth - 1) after) (sym (own-set (stamp_view s) parent (pairs_of c.effective-set.result.now) c.effective-set.ensures.pairs)) i.row in
    let row = c.in_ok-kids-in-Inner.ensures.found i.kids rest there in
    (node_view-Inner l s c.in_ok-kids-in-Inner.kids ∙ ap (λ (ks : PlainNodes). inner_node (label_view l) (stamp_view s) ks) row.0 ∙ i.is, row.1))

pub read_node-returns-in-Inner-clause-lies : goal.read_node-returns-in-Inner-clause-lies
read_node-returns-in-Inner-clause-lies t c =
    let l = c.in-Inner.label in
    let s = c.in-Inner.stamp in
    let parent = pairs_of c.args.parent.now in
    let kids = c.in_ok-kids-in-Inner in
    let bytes = c.args.bytes.now in
    let row = subst (λ (z : List (ℕ × ℕ)). RowAt z (nodes_view kids.kids.items) (drop kids.end bytes) (c.args.depth - 1) (drop c.in_ok-rec.next bytes)) (own-set (stamp_view s) parent (pairs_of c.effective-set.result.now) c.effective-set.ensures.pairs) kids.ensures.lie in
    subst (λ (k : PlainNode). NodeAt parent k (drop kids.end bytes) c.args.depth (drop c.args.at bytes)) (sym (node_view-Inner l s kids.kids))
    (inner-lies parent (label_view l) (stamp_view s) (nodes_view kids.kids.items) (drop kids.end bytes) (drop c.in_ok-rec.next bytes) (drop c.args.at bytes) c.args.depth (rw c.in-Inner.is at c.in_ok-rec.ensures.is) (omega arith) (rw c.in-Inner.is at c.in_ok-rec.ensures.spelled) row)

pub read_node-returns-in-Inner-clause-dir : goal.read_node-returns-in-Inner-clause-dir
read_node-returns-in-Inner-clause-dir t c =
    let l = c.in-Inner.label in
    let s = c.in-Inner.stamp in
    let kids = c.in_ok-kids-in-Inner in
    inner-dir kids.dir (pairs_of c.args.parent.now) (pairs_of c.effective-set.result.now) _ (label_view l) (stamp_view s) (nodes_view kids.kids.items) (node_view-Inner l s kids.kids) c.effective-set.ensures.pairs kids.ensures.dir

pub read_node-returns-in_err-alts-in-Leaf-clause-found : goal.read_node-returns-in_err-alts-in-Leaf-clause-found
read_node-returns-in_err-alts-in-Leaf-clause-found t c = λ k rest h. (
    let i = node-leaf (pairs_of c.args.parent.now) k rest c.args.depth (drop c.args.at c.args.bytes.now) h (label_view c.in-Leaf.label) (stamp_view c.in-Leaf.stamp) (drop c.in_ok-rec.next c.args.bytes.now) (rw c.in-Leaf.is at c.in_ok-rec.ensures.found) in
    fails-handed _ _ c.from_residual-in_err-alts-in-Leaf.result c.in_err-alts-in-Leaf.field-0.0 c.from_residual-in_err-alts-in-Leaf.ensures.1 (c.in_err-alts-in-Leaf.ensures.found i.alts rest i.lies))

pub read_node-returns-in-Leaf-clause-found : goal.read_node-returns-in-Leaf-clause-found
read_node-returns-in-Leaf-clause-found t c = λ k rest h. (
    let l = c.in-Leaf.label in
    let s = c.in-Leaf.stamp in
    let i = node-leaf (pairs_of c.args.parent.now) k rest c.args.depth (drop c.args.at c.args.bytes.now) h (label_view l) (stamp_view s) (drop c.in_ok-rec.next c.args.bytes.now) (rw c.in-Leaf.is at c.in_ok-rec.ensures.found) in
    let alts = c.in_ok-alts-in-Leaf.ensures.found i.alts rest i.lies in
    (node_view-Leaf l s c.in_ok-alts-in-Leaf.alts ∙ ap (λ (xs : List PlainAlt). leaf_node (label_view l) (stamp_view s) xs) alts.0 ∙ i.is, alts.1))

pub read_node-returns-in-Leaf-clause-lies : goal.read_node-returns-in-Leaf-clause-lies
read_node-returns-in-Leaf-clause-lies t c =
    let l = c.in-Leaf.label in
    let s = c.in-Leaf.stamp in
    let parent = pairs_of c.args.parent.now in
    let alts = c.in_ok-alts-in-Leaf in
    let bytes = c.args.bytes.now in
    subst (λ (k : PlainNode). NodeAt parent k (drop alts.end bytes) c.args.depth (drop c.args.at bytes)) (sym (node_view-Leaf l s alts.alts))
    (leaf-lies parent (label_view l) (stamp_view s) (map alt_view alts.alts.items) (drop alts.end bytes) (drop c.in_ok-rec.next bytes) (drop c.args.at bytes) c.args.depth (rw c.in-Leaf.is at c.in_ok-rec.ensures.is) (rw c.in-Leaf.is at c.in_ok-rec.ensures.spelled) alts.ensures.lie)

pub read_node-returns-in-Leaf-clause-dir : goal.read_node-returns-in-Leaf-clause-dir
read_node-returns-in-Leaf-clause-dir t c =
    let l = c.in-Leaf.label in
    let s = c.in-Leaf.stamp in
    leaf-dir (pairs_of c.args.parent.now) _ (label_view l) (stamp_view s) (map alt_view c.in_ok-alts-in-Leaf.alts.items) (node_view-Leaf l s c.in_ok-alts-in-Leaf.alts)

pub read_node-returns-in-Alt-clause-found : goal.read_node-returns-in-Alt-clause-found
read_node-returns-in-Alt-clause-found t c = λ k rest h. (
    let kind = node-kind (pairs_of c.args.parent.now) k rest c.args.depth (drop c.args.at c.args.bytes.now) h _ (drop c.in_ok-rec.next c.args.bytes.now) (rw c.in-Alt.is at c.in_ok-rec.ensures.found) in
    absurd (omega (arith, kind)))

pub read_node-returns-in-End-clause-found : goal.read_node-returns-in-End-clause-found
read_node-returns-in-End-clause-found t c = λ k rest h. (
    let kind = node-kind (pairs_of c.args.parent.now) k rest c.args.depth (drop c.args.at c.args.bytes.now) h _ (drop c.in_ok-rec.next c.args.bytes.now) (rw c.in-End.is at c.in_ok-rec.ensures.found) in
    absurd (omega (arith, kind)))

pub read_node-returns-clause-found : goal.read_node-returns-clause-found
read_node-returns-clause-found t c = λ k rest h. (
    let kind = node-kind (pairs_of c.args.parent.now) k rest c.args.depth (drop c.args.at c.args.bytes.now) h _ (drop c.in_ok-rec.next c.args.bytes.now) (rw c.in-LeafEnd.is at c.in_ok-rec.ensures.found) in
    absurd (omega (arith, kind)))

pub read_node-returns-in-Inner-clause-further : goal.read_node-returns-in-Inner-clause-further
read_node-returns-in-Inner-clause-further t c = omega (arith, c.in_ok-rec.ensures.further, c.in_ok-kids-in-Inner.ensures.further)

pub read_node-returns-in-Inner-clause-within : goal.read_node-returns-in-Inner-clause-within
read_node-returns-in-Inner-clause-within t c = c.in_ok-kids-in-Inner.ensures.within

pub read_node-returns-in-Leaf-clause-further : goal.read_node-returns-in-Leaf-clause-further
read_node-returns-in-Leaf-clause-further t c = omega (arith, c.in_ok-rec.ensures.further, c.in_ok-alts-in-Leaf.ensures.further)

pub read_node-returns-in-Leaf-clause-within : goal.read_node-returns-in-Leaf-clause-within
read_node-returns-in-Leaf-clause-within t c = c.in_ok-alts-in-Leaf.ensures.within

-- ---- rows

pub read_row-loop-kind-init : goal.read_row-loop-kind-init
read_row-loop-kind-init t c =
    let set = pairs_of c.args.set.now in
    let first = drop c.args.start c.args.bytes.now in
    record {
      left = λ ks rest h. rw c.new-nodes.ensures.items (row-start set ks rest c.args.depth first h);
      done = rw c.new-nodes.ensures.items (row-none set c.args.depth first);
      entries = rw (c.new-nodes.ensures.items, c.new-entries.ensures.items) refl;
      each = rw (c.new-nodes.ensures.items, c.new-entries.ensures.items) refl;
      further = omega arith;
    }

pub read_row-returns-in_default-clause-found : goal.read_row-returns-in_default-clause-found
read_row-returns-in_default-clause-found t c = λ ks rest h. (
    let l = c.loop-kind in
    row-frame (pairs_of c.args.set.now) ks rest c.args.depth (map node_view l.nodes.items) (drop l.at c.args.bytes.now) (l.invariant.left ks rest h) (sym c.in_default.ensures.found))

pub read_row-returns-then-not-branch-clause-found : goal.read_row-returns-then-not-branch-clause-found
read_row-returns-then-not-branch-clause-found t c = λ ks rest h. (
    let l = c.loop-kind in
    let set = pairs_of c.args.set.now in
    let bytes = c.args.bytes.now in
    let es = map entry_view l.entries.items in
    let done = map node_view l.nodes.items in
    let told = c.in_ok-is_directory.ensures
    ∙ (λ j. ltb (length (c.deref.ensures.value j)) (2 ^ 32) && bytes_eq (dir_bytes (dir_with (map entry_view (c.deref-then-kind-eq-END.ensures.value j)) set (nodes_view (c.deref.ensures.value j)))) c.in-Some.body.now) in
    let whole = row-closing set c.args.depth (drop c.args.start bytes) done (drop l.at bytes) l.invariant.done ks rest h (l.invariant.left ks rest h) es l.invariant.entries c.in-Some.kind c.in-Some.body.now (drop c.in-Some.next bytes) (sym c.in-Some.ensures.found) c.if-kind-eq-END.true
    (length l.nodes.items) (sym (length-map l.nodes.items node_view)) in
    absurd (true≢false (sym whole ∙ sym told ∙ c.if-not-branch.true)))

pub read_row-returns-then-kind-eq-END-clause-found : goal.read_row-returns-then-kind-eq-END-clause-found
read_row-returns-then-kind-eq-END-clause-found t c = λ ks rest h. (
    let l = c.loop-kind in
    let end = row-end (pairs_of c.args.set.now) ks rest c.args.depth (map node_view l.nodes.items) (drop l.at c.args.bytes.now) (l.invariant.left ks rest h) c.in-Some.kind c.in-Some.body.now (drop c.in-Some.next c.args.bytes.now) (sym c.in-Some.ensures.found) c.if-kind-eq-END.true in
    rw c.fitted.ensures (end.0, end.1))

pub read_row-returns-then-kind-eq-END-clause-lie : goal.read_row-returns-then-kind-eq-END-clause-lie
read_row-returns-then-kind-eq-END-clause-lie t c =
    let l = c.loop-kind in
    let s = c.in-Some in
    let bytes = c.args.bytes.now in
    let set = pairs_of c.args.set.now in
    let es = map entry_view l.entries.items in
    let done = map node_view l.nodes.items in
    let told = c.in_ok-is_directory.ensures
    ∙ (λ j. ltb (length (c.deref.ensures.value j)) (2 ^ 32) && bytes_eq (dir_bytes (dir_with (map entry_view (c.deref-then-kind-eq-END.ensures.value j)) set (nodes_view (c.deref.ensures.value j)))) c.in-Some.body.now) in
    let two = both (ltb (length l.nodes.items) (2 ^ 32)) (bytes_eq (dir_bytes (dir_with es set (nodes_from done))) s.body.now) (sym told ∙ c.if-not-branch.false) in
    let four : s.kind ≡ 4 = c.if-kind-eq-END.true in
    let end : drop l.at bytes ≡ framed 4 s.body.now ++ drop s.next bytes =
    frame-spelled bytes l.at s.next s.kind s.body.now (λ i. omega (arith, c.type_inv.bytes i)) (sym s.ensures.found) ∙ ap (λ (k : ℕ). framed k s.body.now ++ drop s.next bytes) four in
    rw c.fitted.ensures (row-shut set c.args.depth (drop c.args.start bytes) done (drop l.at bytes) l.invariant.done es (drop s.next bytes) s.body.now c.requires l.invariant.entries
    (omega (arith, lt-of (length l.nodes.items) (2 ^ 32) two.0, length-map l.nodes.items node_view)) end ((bytes_eq-Decides (dir_bytes (dir_with es set (nodes_from done))) s.body.now).0 two.1) (omega (arith, length-drop c.args.start bytes)))

pub read_row-returns-then-kind-eq-END-clause-dir : goal.read_row-returns-then-kind-eq-END-clause-dir
read_row-returns-then-kind-eq-END-clause-dir t c =
    let l = c.loop-kind in
    let set = pairs_of c.args.set.now in
    let es = map entry_view l.entries.items in
    let done = map node_view l.nodes.items in
    let body = c.in-Some.body.now in
    let told = c.in_ok-is_directory.ensures
    ∙ (λ j. ltb (length (c.deref.ensures.value j)) (2 ^ 32) && bytes_eq (dir_bytes (dir_with (map entry_view (c.deref-then-kind-eq-END.ensures.value j)) set (nodes_view (c.deref.ensures.value j)))) c.in-Some.body.now) in
    let two = both (ltb (length l.nodes.items) (2 ^ 32)) (bytes_eq (dir_bytes (dir_with es set (nodes_from done))) body) (sym told ∙ c.if-not-branch.false) in
    let same = (bytes_eq-Decides (dir_bytes (dir_with es set (nodes_from done))) body).0 two.1 in
    rw c.fitted.ensures (ap length (sym same) ∙ ap (λ (d : PlainDir). length (dir_bytes d)) (dir-is set c.args.depth (drop c.args.start c.args.bytes.now) done (drop l.at c.args.bytes.now) l.invariant.done es l.invariant.entries))

pub read_row-returns-then-kind-eq-END-clause-further : goal.read_row-returns-then-kind-eq-END-clause-further
read_row-returns-then-kind-eq-END-clause-further t c =
    let s = c.in-Some in
    let more = frame-on c.args.bytes.now c.loop-kind.at s.next s.kind s.body.now (λ i. omega (arith, c.type_inv.bytes i)) (sym s.ensures.found) s.ensures.next in
    omega (arith, c.loop-kind.invariant.further)

pub read_row-returns-in_err-node-clause-found : goal.read_row-returns-in_err-node-clause-found
read_row-returns-in_err-node-clause-found t c = λ ks rest h. (
    let l = c.loop-kind in
    let i = row-node (pairs_of c.args.set.now) ks rest c.args.depth (map node_view l.nodes.items) (drop l.at c.args.bytes.now) (l.invariant.left ks rest h) c.in-Some.kind c.in-Some.body.now (drop c.in-Some.next c.args.bytes.now) (sym c.in-Some.ensures.found) c.if-kind-eq-END.false in
    fails-handed _ _ c.from_residual-in_err-node.result c.in_err-node.field-0.0 c.from_residual-in_err-node.ensures.1 (c.in_err-node.ensures.found i.first i.behind i.lies))

pub read_row-loop-kind-preserved : goal.read_row-loop-kind-preserved
read_row-loop-kind-preserved t c =
    let l = c.loop-kind in
    let set = pairs_of c.args.set.now in
    let bytes = c.args.bytes.now in
    let first = drop c.args.start bytes in
    let now = drop l.at bytes in
    let done = map node_view l.nodes.items in
    let read = c.in_ok-node in
    let after = drop read.end bytes in
    let es = map entry_view l.entries.items in
    let entry = c.entry_of.result in
    let pushed = ap (map node_view) c.in_ok-push-2.ensures.items ∙ map-append node_view l.nodes.items (read.node ∷ []) in
    let from : l.at - c.args.start + length now ≡ length first = omega (arith, length-drop l.at bytes, length-drop c.args.start bytes, read.ensures.further, read.ensures.within) in
    let to : read.end - l.at + length after ≡ length now = omega (arith, length-drop l.at bytes, length-drop read.end bytes, read.ensures.further, read.ensures.within) in
    record {
      left = λ ks rest h. (
          let i = row-node set ks rest c.args.depth done now (l.invariant.left ks rest h) c.in-Some.kind c.in-Some.body.now (drop c.in-Some.next bytes) (sym c.in-Some.ensures.found) c.if-kind-eq-END.false in
          let found = read.ensures.found i.first i.behind i.lies in
          subst (λ (xs : List PlainNode). RowLeft set ks rest c.args.depth xs after) (sym pushed) (i.on (node_view read.node) after found.0 found.1));
      done = subst (λ (xs : List PlainNode). RowDone set c.args.depth first xs after) (sym pushed) (row-more set c.args.depth first done now l.invariant.done (node_view read.node) after read.ensures.lies);
      entries = ap (map entry_view) c.in_ok-push.ensures.items ∙ map-append entry_view l.entries.items (entry ∷ []) ∙ ap (λ (e : PlainEntry). es ++ e ∷ []) c.entry_of.ensures
          ∙ entry-more set c.args.depth first done now l.invariant.done (node_view read.node) after read.ensures.lies es (l.at - c.args.start) (read.end - l.at) read.dir l.invariant.entries from to read.ensures.dir
          ∙ ap (λ (xs : List PlainNode). entries_from 0 (map (node_piece set) xs)) (sym pushed);
      each = omega (arith, ap length c.in_ok-push.ensures.items, ap length c.in_ok-push-2.ensures.items, length-append l.entries.items (entry ∷ []), length-append l.nodes.items (read.node ∷ []), l.invariant.each);
      further = omega (arith, read.ensures.further);
    }

pub read_row-returns-then-kind-eq-END-clause-within : goal.read_row-returns-then-kind-eq-END-clause-within
read_row-returns-then-kind-eq-END-clause-within t c = c.in-Some.ensures.next
