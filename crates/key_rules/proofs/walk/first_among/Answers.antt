use Rattle.std.proofs.Common.{◌≡◌, ◌+◌, Some, None, ap, ◌∙◌}
use Rattle.jsonml_tree.specs.LentView.{lent_tree_view}
use Rattle.key_spec.specs.ContextView.{context_path, context_rules}
use Rattle.key_rules.specs.LentView.{lent_label_view}
use Rattle.key_rules.specs.Satisfies.{item_label}
use Rattle.key_rules.specs.Faults.{item_fault, item_place}
use Rattle.key_rules.specs.Checks.{checked_fault, checked_label}
use Rattle.key_rules.proofs.Looks.{looked-dropped, looked-new, looked-repeated, was_there, was_new}
use Rattle.key_rules.proofs.walk.first_among.Goals as goal
use Rattle.key_rules.proofs.walk.first_among.Goals.{in-Dropped, in-Labelled+in_ok-insert-in-Labelled+then-not-branch, in-Labelled+in_ok-insert-in-Labelled+else-not-branch}

pub loop-position-preserved : goal.loop-position-preserved
loop-position-preserved c =
    let rules' = context_rules c.args.context in
    let path = context_path c.args.context in
    let at = item_place c.args.place.now in
    let items = c.args.items.now in
    let i = c.loop-position.position in
    let x = c.index-items-position.result in
    let checked = c.in_ok-check_item.ensures in
    let fault = checked.fault (at (i + 1)) in
    let label = checked.label in
    elim c.match-branch-2.branch [
      | in-Dropped w ↦ (
          let good : item_fault rules' path (at (i + 1)) (lent_tree_view x) ≡ None = fault ∙ ap (checked_fault (at (i + 1))) w.in-Dropped.is in
          let none : item_label rules' path (lent_tree_view x) ≡ None = label ∙ ap checked_label w.in-Dropped.is in
          let next = looked-dropped rules' path at items i x c.loop-position.labels c.loop-position.repeated c.loop-position-test.true c.index-items-position.is good none c.loop-position.invariant in
          rw (w.labels-is, w.repeated-is) next)
      | in-Labelled+in_ok-insert-in-Labelled+then-not-branch w ↦ (
          let l = w.in-Labelled.label in
          let good : item_fault rules' path (at (i + 1)) (lent_tree_view x) ≡ None = fault ∙ ap (checked_fault (at (i + 1))) w.in-Labelled.is in
          let some : item_label rules' path (lent_tree_view x) ≡ Some (lent_label_view l) = label ∙ ap checked_label w.in-Labelled.is in
          let added = w.in_ok-insert-in-Labelled.ensures.updates.0 in
          let old = was_there _ _ w.in_ok-insert-in-Labelled.ensures.added w.if-not-branch.true in
          let next = looked-repeated rules' path at items i x c.loop-position.labels w.insert.new.self l c.loop-position.repeated c.loop-position-test.true c.index-items-position.is good some added old c.loop-position.invariant in
          rw (w.labels-is, w.repeated-is, w.or-repeated.ensures) next)
      | in-Labelled+in_ok-insert-in-Labelled+else-not-branch w ↦ (
          let l = w.in-Labelled.label in
          let good : item_fault rules' path (at (i + 1)) (lent_tree_view x) ≡ None = fault ∙ ap (checked_fault (at (i + 1))) w.in-Labelled.is in
          let some : item_label rules' path (lent_tree_view x) ≡ Some (lent_label_view l) = label ∙ ap checked_label w.in-Labelled.is in
          let added = w.in_ok-insert-in-Labelled.ensures.updates.0 in
          let new = was_new _ _ w.in_ok-insert-in-Labelled.ensures.added w.if-not-branch.false in
          let next = looked-new rules' path at items i x c.loop-position.labels w.insert.new.self l c.loop-position.repeated c.loop-position-test.true c.index-items-position.is good some added new c.loop-position.invariant in
          rw (w.labels-is, w.repeated-is) next)
    ]
