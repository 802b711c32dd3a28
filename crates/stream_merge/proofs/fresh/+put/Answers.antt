use Rattle.std.proofs.Common.{◌≡◌, ◌<◌, [], ◌++◌, Option, None, Some, refl, ap, subst, ◌∙◌, arith}
use Rattle.version_set.specs.View.{pairs_of}
use Rattle.keyed_tree.specs.Data.{label_of, inner, leaf, kids_from}
use Rattle.keyed_tree.specs.LentView.{lent_val_view}
use Rattle.keyed_parts.specs.View.{kid_view, kids_view, with_inside}
use Rattle.archive_tree.specs.View.{stamp_view}
use Rattle.nested_merge.specs.Merged.{fresh}
use Rattle.record_writer.specs.Data.{call_end_inner, call_end_leaf}
use Rattle.record_writer.specs.View.{writer_view}
use Rattle.record_writer.specs.Walks.{node_calls}
use Rattle.stream_merge.specs.Does.{Sent}
use Rattle.record_copy.specs.State.{State, state}
use Rattle.stream_merge.specs.declared.fault.MergeFault.{MergeFault}
use Rattle.stream_merge.proofs.Handed.{sent-handed, called}
use Rattle.stream_merge.proofs.Puts.{fresh_calls, calls-left, nowhere, node-sent, opened, inside-open, is-open, sent-as, sent-nothing, call-sent, shaped-kids, shaped-value, leaf-stands, leaf-stays, inner-fails, inner-kids-fail, inner-put, leaf-fails, leaf-alt-fails, leaf-put}
use Rattle.stream_merge.proofs.States.{sent-then, sent-fault, written}
use Rattle.stream_merge.proofs.Weaving.{AreShapedKids}
use Rattle.stream_merge.proofs.Weights.{row_weight, row-smaller, rest-smaller}
use Rattle.stream_merge.proofs.fresh.+put.Goals as goal

-- ---- a row

pub put_kids-loop-kid-init : goal.put_kids-loop-kid-init
put_kids-loop-kid-init g t c = record { no_leaf = c.requires.no_leaf; shaped = c.requires.shaped; fewer = omega arith; rest = λ c' within u e h. h }

pub put_kids-returns-in_err-put_node : goal.put_kids-returns-in_err-put_node
put_kids-returns-in_err-put_node g t c = record {
  sends = λ c' within. (
      let f = g.F.Folder in
      let at = state f.files f.draft f.numbers f.faults in
      let l = c.loop-kid in
      let i = c.in-Some in
      let set = pairs_of c.args.parent.now in
      let s = stamp_view c.args.stamp.now in
      let here = node_calls set (fresh s (kid_view i.kid)) in
      let rest = fresh_calls set s (kids_view i.rest) in
      let p : State = at l.folder c' l.writer in
      let u : State = at c.put_node.new.folder c' c.put_node.new.writer in
      let e = c.in_err-put_node in
      let r = c.from_residual in
      sent-handed r.result e.field-0.0 r.ensures.1 (fresh_calls set s (kids_view c.args.kids)) (at c.args.folder.now c' c.args.writer.now) u (l.invariant.rest c' within u (Some e.field-0.0)
      (sent-as p u (Some e.field-0.0) (here ++ rest) (fresh_calls set s (kids_view l.left)) (calls-left set s (kids_view l.left) (kids_view i.rest) (kid_view i.kid) i.ensures.some) (sent-fault p u e.field-0.0 here rest (e.ensures.sends c' within)))));
}

pub put_kids-loop-kid-preserved : goal.put_kids-loop-kid-preserved
put_kids-loop-kid-preserved g t c =
    let f = g.F.Folder in
    let at = state f.files f.draft f.numbers f.faults in
    let l = c.loop-kid in
    let i = c.in-Some in
    let k = kid_view i.kid in
    let set = pairs_of c.args.parent.now in
    let s = stamp_view c.args.stamp.now in
    let rests = node-sent (at l.folder nowhere l.writer) (at c.put_node.new.folder nowhere c.put_node.new.writer) set (fresh s k) l.invariant.no_leaf (c.in_ok-put_node.ensures.sends nowhere (omega arith)) in
    let shaped = subst AreShapedKids i.ensures.some l.invariant.shaped in
    let fewer = l.invariant.fewer in
    let smaller = rest-smaller k (kids_view l.left) (kids_view i.rest) i.ensures.some in
    record {
      no_leaf = rests.no_leaf;
      shaped = shaped.1;
      fewer = omega (arith, fewer, smaller);
      rest = λ c' within v e h. (
          let here = node_calls set (fresh s k) in
          let rest = fresh_calls set s (kids_view i.rest) in
          let p : State = at l.folder c' l.writer in
          let u : State = at c.put_node.new.folder c' c.put_node.new.writer in
          l.invariant.rest c' within v e
          (sent-as p v e (here ++ rest) (fresh_calls set s (kids_view l.left)) (calls-left set s (kids_view l.left) (kids_view i.rest) k i.ensures.some) (sent-then p u v e here rest (c.in_ok-put_node.ensures.sends c' within) h)));
    }

pub put_kids-returns : goal.put_kids-returns
put_kids-returns g t c = record {
  sends = λ c' within. (
      let f = g.F.Folder in
      let at = state f.files f.draft f.numbers f.faults in
      let l = c.loop-kid in
      let u : State = at l.folder c' l.writer in
      l.invariant.rest c' within u None
      (sent-as u u None [] _ (ap (fresh_calls (pairs_of c.args.parent.now) (stamp_view c.args.stamp.now)) (c.in_default.ensures.none refl)) (sent-nothing u (g.met.F.Folder.metered l.folder) within)));
}

-- ---- a node

pub put_node-returns-in_err-put_opening-in-Kids : goal.put_node-returns-in_err-put_opening-in-Kids
put_node-returns-in_err-put_opening-in-Kids g t c = record {
  sends = λ c' within. (
      let f = g.F.Folder in
      let at = state f.files f.draft f.numbers f.faults in
      let k = kid_view c.args.kid in
      let l = label_of k in
      let i = c.in-Kids in
      let is : k ≡ inner l (kids_from (kids_view i.kids)) = c.inside.ensures ∙ ap (with_inside l) i.is in
      let p : State = at c.args.folder.now c' c.args.writer.now in
      let u : State = at c.put_opening.new.folder c' c.put_opening.new.writer in
      let e = c.in_err-put_opening-in-Kids in
      let r = c.from_residual in
      inner-fails (pairs_of c.args.parent.now) (pairs_of c.effective-set.result.now) (stamp_view c.args.stamp.now) k l (kids_view i.kids) is c.effective-set.ensures.pairs p u r.result e.field-0.0 r.ensures.1 (e.ensures.sends c' within));
}

pub put_node-put_kids-requires : goal.put_node-put_kids-requires
put_node-put_kids-requires g t c κs within =
    let f = g.F.Folder in
    let at = state f.files f.draft f.numbers f.faults in
    let k = kid_view c.args.kid in
    let l = label_of k in
    let i = c.in-Kids in
    let is : k ≡ inner l (kids_from (kids_view i.kids)) = c.inside.ensures ∙ ap (with_inside l) i.is in
    let smaller = row-smaller k l (kids_view i.kids) is in
    let less : row_weight (kids_view i.kids) < t = omega (arith, smaller, c.decreases) in
    let opens = opened (at c.args.folder.now nowhere c.args.writer.now) (at c.put_opening.new.folder nowhere c.put_opening.new.writer) l (stamp_view c.args.stamp.now) (pairs_of c.effective-set.result.now) c.requires.no_leaf (c.in_ok-put_opening-in-Kids.ensures.sends nowhere (omega arith)) in
    (less, (within, (opens.no_leaf, shaped-kids k l (kids_view i.kids) is c.requires.shaped)))

pub put_node-returns-in_err-put_kids-in-Kids : goal.put_node-returns-in_err-put_kids-in-Kids
put_node-returns-in_err-put_kids-in-Kids g t c = record {
  sends = λ c' within. (
      let f = g.F.Folder in
      let at = state f.files f.draft f.numbers f.faults in
      let k = kid_view c.args.kid in
      let l = label_of k in
      let i = c.in-Kids in
      let is : k ≡ inner l (kids_from (kids_view i.kids)) = c.inside.ensures ∙ ap (with_inside l) i.is in
      let p : State = at c.args.folder.now c' c.args.writer.now in
      let u : State = at c.put_opening.new.folder c' c.put_opening.new.writer in
      let v : State = at c.put_kids.new.folder c' c.put_kids.new.writer in
      let e = c.in_err-put_kids-in-Kids in
      let r = c.from_residual-in_err-put_kids-in-Kids in
      inner-kids-fail (pairs_of c.args.parent.now) (pairs_of c.effective-set.result.now) (stamp_view c.args.stamp.now) k l (kids_view i.kids) is c.effective-set.ensures.pairs p u r.result e.field-0.0 r.ensures.1 v
      (c.in_ok-put_opening-in-Kids.ensures.sends c' within) (e.ensures.sends c' within));
}

pub put_node-end_inner-requires : goal.put_node-end_inner-requires
put_node-end_inner-requires g t c =
    let f = g.F.Folder in
    let at = state f.files f.draft f.numbers f.faults in
    let k = kid_view c.args.kid in
    let p : State = at c.args.folder.now nowhere c.args.writer.now in
    let u : State = at c.put_opening.new.folder nowhere c.put_opening.new.writer in
    let v : State = at c.put_kids.new.folder nowhere c.put_kids.new.writer in
    let begun = inside-open p u v (label_of k) (stamp_view c.args.stamp.now) (pairs_of c.effective-set.result.now) (kids_view c.in-Kids.kids) c.requires.no_leaf (c.in_ok-put_opening-in-Kids.ensures.sends nowhere (omega arith)) (c.in_ok-put_kids-in-Kids.ensures.sends nowhere (omega arith)) in
    record { no_leaf = begun.no_leaf; inner = is-open (writer_view c.args.writer.now) (writer_view c.put_kids.new.writer) begun }

pub put_node-returns-in_ok-put_kids-in-Kids : goal.put_node-returns-in_ok-put_kids-in-Kids
put_node-returns-in_ok-put_kids-in-Kids g t c = record {
  sends = λ c' within. (
      let f = g.F.Folder in
      let at = state f.files f.draft f.numbers f.faults in
      let call = call-sent f.files f.draft f.numbers f.faults g.met.F.Folder.metered c' within in
      let k = kid_view c.args.kid in
      let l = label_of k in
      let i = c.in-Kids in
      let is : k ≡ inner l (kids_from (kids_view i.kids)) = c.inside.ensures ∙ ap (with_inside l) i.is in
      let parent = pairs_of c.args.parent.now in
      let st = stamp_view c.args.stamp.now in
      let p : State = at c.args.folder.now c' c.args.writer.now in
      let u : State = at c.put_opening.new.folder c' c.put_opening.new.writer in
      let v : State = at c.put_kids.new.folder c' c.put_kids.new.writer in
      let w : State = at c.end_inner.new.folder c' c.end_inner.new.self in
      let e = c.end_inner.ensures in
      let last = call c.put_kids.new.folder c.end_inner.new.folder c.put_kids.new.writer c.end_inner.new.self call_end_inner c.end_inner.result e.folder e.after e.too_long in
      subst (λ (o : Option MergeFault). Sent (node_calls parent (fresh st k)) p w o) (called c.end_inner.result c.written.result c.written.ensures)
      (inner-put parent (pairs_of c.effective-set.result.now) st k l (kids_view i.kids) is c.effective-set.ensures.pairs p u v w (written c.end_inner.result) (c.in_ok-put_opening-in-Kids.ensures.sends c' within) (c.in_ok-put_kids-in-Kids.ensures.sends c' within) last));
}

pub put_node-returns-in_err-put_opening-in-Body : goal.put_node-returns-in_err-put_opening-in-Body
put_node-returns-in_err-put_opening-in-Body g t c = record {
  sends = λ c' within. (
      let f = g.F.Folder in
      let at = state f.files f.draft f.numbers f.faults in
      let k = kid_view c.args.kid in
      let l = label_of k in
      let i = c.in-Body in
      let is : k ≡ leaf l (lent_val_view i.body) = c.inside.ensures ∙ ap (with_inside l) i.is in
      let p : State = at c.args.folder.now c' c.args.writer.now in
      let u : State = at c.put_opening-in-Body.new.folder c' c.put_opening-in-Body.new.writer in
      let e = c.in_err-put_opening-in-Body in
      let r = c.from_residual-in_err-put_opening-in-Body in
      leaf-fails (pairs_of c.args.parent.now) (pairs_of c.effective-set.result.now) (stamp_view c.args.stamp.now) k l (lent_val_view i.body) is c.effective-set.ensures.pairs p u r.result e.field-0.0 r.ensures.1 (e.ensures.sends c' within));
}

pub put_node-put_body-requires : goal.put_node-put_body-requires
put_node-put_body-requires g t c =
    let f = g.F.Folder in
    let at = state f.files f.draft f.numbers f.faults in
    let k = kid_view c.args.kid in
    let l = label_of k in
    let i = c.in-Body in
    let is : k ≡ leaf l (lent_val_view i.body) = c.inside.ensures ∙ ap (with_inside l) i.is in
    let p : State = at c.args.folder.now nowhere c.args.writer.now in
    let u : State = at c.put_opening-in-Body.new.folder nowhere c.put_opening-in-Body.new.writer in
    record {
      leaf = leaf-stands p u l (stamp_view c.args.stamp.now) (pairs_of c.effective-set.result.now) (c.in_ok-put_opening-in-Body.ensures.sends nowhere (omega arith));
      shaped = shaped-value k l (lent_val_view i.body) is c.requires.shaped;
    }

pub put_node-returns-in_err-put_body-in-Body : goal.put_node-returns-in_err-put_body-in-Body
put_node-returns-in_err-put_body-in-Body g t c = record {
  sends = λ c' within. (
      let f = g.F.Folder in
      let at = state f.files f.draft f.numbers f.faults in
      let k = kid_view c.args.kid in
      let l = label_of k in
      let i = c.in-Body in
      let is : k ≡ leaf l (lent_val_view i.body) = c.inside.ensures ∙ ap (with_inside l) i.is in
      let p : State = at c.args.folder.now c' c.args.writer.now in
      let u : State = at c.put_opening-in-Body.new.folder c' c.put_opening-in-Body.new.writer in
      let v : State = at c.put_body.new.folder c' c.put_body.new.writer in
      let e = c.in_err-put_body-in-Body in
      let r = c.from_residual-in_err-put_body-in-Body in
      leaf-alt-fails (pairs_of c.args.parent.now) (pairs_of c.effective-set.result.now) (stamp_view c.args.stamp.now) k l (lent_val_view i.body) is c.effective-set.ensures.pairs p u r.result e.field-0.0 r.ensures.1 v
      (c.in_ok-put_opening-in-Body.ensures.sends c' within) (e.ensures.sends c' within));
}

pub put_node-end_leaf-requires : goal.put_node-end_leaf-requires
put_node-end_leaf-requires g t c =
    let f = g.F.Folder in
    let at = state f.files f.draft f.numbers f.faults in
    let k = kid_view c.args.kid in
    let p : State = at c.args.folder.now nowhere c.args.writer.now in
    let u : State = at c.put_opening-in-Body.new.folder nowhere c.put_opening-in-Body.new.writer in
    let v : State = at c.put_body.new.folder nowhere c.put_body.new.writer in
    let stands = leaf-stands p u (label_of k) (stamp_view c.args.stamp.now) (pairs_of c.effective-set.result.now) (c.in_ok-put_opening-in-Body.ensures.sends nowhere (omega arith)) in
    record { leaf = leaf-stays u v None (lent_val_view c.in-Body.body) (c.in_ok-put_body-in-Body.ensures.sends nowhere (omega arith)) stands }

pub put_node-returns-in_ok-put_body-in-Body : goal.put_node-returns-in_ok-put_body-in-Body
put_node-returns-in_ok-put_body-in-Body g t c = record {
  sends = λ c' within. (
      let f = g.F.Folder in
      let at = state f.files f.draft f.numbers f.faults in
      let call = call-sent f.files f.draft f.numbers f.faults g.met.F.Folder.metered c' within in
      let k = kid_view c.args.kid in
      let l = label_of k in
      let i = c.in-Body in
      let is : k ≡ leaf l (lent_val_view i.body) = c.inside.ensures ∙ ap (with_inside l) i.is in
      let parent = pairs_of c.args.parent.now in
      let st = stamp_view c.args.stamp.now in
      let p : State = at c.args.folder.now c' c.args.writer.now in
      let u : State = at c.put_opening-in-Body.new.folder c' c.put_opening-in-Body.new.writer in
      let v : State = at c.put_body.new.folder c' c.put_body.new.writer in
      let w : State = at c.end_leaf.new.folder c' c.end_leaf.new.self in
      let e = c.end_leaf.ensures in
      let last = call c.put_body.new.folder c.end_leaf.new.folder c.put_body.new.writer c.end_leaf.new.self call_end_leaf c.end_leaf.result e.folder e.after e.too_long in
      subst (λ (o : Option MergeFault). Sent (node_calls parent (fresh st k)) p w o) (called c.end_leaf.result c.written-in-Body.result c.written-in-Body.ensures)
      (leaf-put parent (pairs_of c.effective-set.result.now) st k l (lent_val_view i.body) is c.effective-set.ensures.pairs p u v w (written c.end_leaf.result) (c.in_ok-put_opening-in-Body.ensures.sends c' within) (c.in_ok-put_body-in-Body.ensures.sends c' within) last));
}
