use Rattle.std.proofs.Common.{◌∙◌, Some, ap, rules}
use Rattle.std.proofs.lemmas.Fn.{always_returns_same}
use Rattle.keyed_tree.specs.Order.{label_cmp}
use Rattle.keyed_tree.proofs.Kids.{search_seen}
use Rattle.archive_tree.specs.Data.{node_label}
use Rattle.archive_tree.specs.View.{node_view}
use Rattle.archive_file.specs.NodeFits.{bare_label, lasting}
use Rattle.archive_file.proofs.Nodes.{labels-rise}
use Rattle.archive_file.proofs.lead.bare_kid.Goals as goal

pub returns-in-Ok : goal.returns-in-Ok
returns-in-Ok c =
    let facts = c.binary_search_by.ensures in
    let l = bare_label c.args.tag.now in
    let by_label = facts.position (λ k. label_cmp (node_label (node_view k)) l) (always_returns_same _ _ _ (λ a r g called. search rules)) in
    let found = search_seen node_view node_label l c.args.kids.now c.binary_search_by.result (labels-rise c.args.kids.now c.requires) facts.bound by_label in
    let at = (rw c.in-Ok.is at found) in
    c.lasting.ensures ∙ ap (λ k. lasting (Some (node_view k))) c.index-kids-at.is ∙ ap lasting (at c.index-kids-at.result)

pub returns-in-Err : goal.returns-in-Err
returns-in-Err c =
    let facts = c.binary_search_by.ensures in
    let l = bare_label c.args.tag.now in
    let by_label = facts.position (λ k. label_cmp (node_label (node_view k)) l) (always_returns_same _ _ _ (λ a r g called. search rules)) in
    let found = search_seen node_view node_label l c.args.kids.now c.binary_search_by.result (labels-rise c.args.kids.now c.requires) facts.bound by_label in
    ap lasting (rw c.in-Err.is at found)
