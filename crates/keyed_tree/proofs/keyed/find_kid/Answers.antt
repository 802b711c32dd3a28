use Rattle.std.proofs.Common.{◌∙◌, Some, ap, rules}
use Rattle.std.proofs.lemmas.Fn.{always_returns_same}
use Rattle.keyed_tree.specs.Data.{label_of}
use Rattle.keyed_tree.specs.Order.{label_cmp}
use Rattle.keyed_tree.specs.View.{label_view, keyed_view}
use Rattle.keyed_tree.proofs.Kids.{search_kid}
use Rattle.keyed_tree.proofs.keyed.find_kid.Goals as goal

pub returns-in-Ok : goal.returns-in-Ok
returns-in-Ok c =
    let facts = c.binary_search_by.ensures in
    let by_label = facts.position (λ k. label_cmp (label_of (keyed_view k)) (label_view c.args.label.now)) (always_returns_same _ _ _ (λ a r g called. search rules)) in
    let found = search_kid keyed_view (label_view c.args.label.now) c.args.kids.now c.binary_search_by.result c.requires facts.bound by_label in
    let at = (rw c.in-Ok.is at found) in
    ap (λ k. Some (keyed_view k)) c.index-kids-at.is ∙ at c.index-kids-at.result

pub returns-in-Err : goal.returns-in-Err
returns-in-Err c =
    let facts = c.binary_search_by.ensures in
    let by_label = facts.position (λ k. label_cmp (label_of (keyed_view k)) (label_view c.args.label.now)) (always_returns_same _ _ _ (λ a r g called. search rules)) in
    let found = search_kid keyed_view (label_view c.args.label.now) c.args.kids.now c.binary_search_by.result c.requires facts.bound by_label in
    rw c.in-Err.is at found
