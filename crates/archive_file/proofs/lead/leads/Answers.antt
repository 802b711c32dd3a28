use Rattle.std.proofs.Common.{◌≡◌, ◌∙◌, None, Some, map, arith, sym, option_map, string_bytes}
use Rattle.keyed_tree.specs.View.{key_view}
use Rattle.archive_tree.specs.Seek.{node_with}
use Rattle.archive_tree.specs.View.{node_view}
use Rattle.archive_file.specs.NodeFits.{bare_label, lasting}
use Rattle.archive_file.proofs.Nodes.{stops-at, goes-on-at, lasting-sorted}
use Rattle.archive_file.proofs.lead.leads.Goals as goal

pub returns-in_default : goal.returns-in_default
returns-in_default c =
    let l = c.loop-tag in
    let none : None ≡ lasting (node_with (bare_label c.as_str.result.now) (map node_view c.kids.result.now)) = c.in_default.ensures in
    sym (l.invariant.left ∙ stops-at c.args.path.now.tags.items c.deref-tag-items.result.now c.deref-tag-items.ensures.value l.tag-index c.tag-item.result (omega arith) c.tag-item.is c.as_str.result.now c.as_str.ensures.value
    c.kids.result.now (node_view l.node.now) c.kids.ensures (option_map string_bytes c.args.path.now.attr) (key_view c.args.value.now) none)

pub loop-tag-preserved : goal.loop-tag-preserved
loop-tag-preserved c =
    let l = c.loop-tag in
    let j = node_view c.in-Some.kid.now in
    let some : Some j ≡ lasting (node_with (bare_label c.as_str.result.now) (map node_view c.kids.result.now)) = c.in-Some.ensures in
    let left = goes-on-at c.args.path.now.tags.items c.deref-tag-items.result.now c.deref-tag-items.ensures.value l.tag-index c.tag-item.result (omega arith) c.tag-item.is c.as_str.result.now c.as_str.ensures.value
    c.kids.result.now (node_view l.node.now) c.kids.ensures (option_map string_bytes c.args.path.now.attr) (key_view c.args.value.now) j some in
    record {
      sorted = lasting-sorted c.as_str.result.now c.kids.result.now (node_view l.node.now) j c.kids.ensures l.invariant.sorted some;
      left = l.invariant.left ∙ left;
    }
