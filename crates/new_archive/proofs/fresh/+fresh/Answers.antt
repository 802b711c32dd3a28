use Rattle.std.proofs.Common.{◌≡◌, ◌+◌, ◌∙◌, ap, arith}
use Rattle.std.proofs.lemmas.Grind.{common_steps}
use Rattle.keyed_tree.specs.Data.{label_of}
use Rattle.keyed_parts.specs.View.{kid_view, kids_view, with_inside}
use Rattle.new_archive.proofs.Sizes.{tree_size, list_size}
use Rattle.new_archive.proofs.fresh.+fresh.Goals as goal

pub node_of-nodes_of-requires : goal.node_of-nodes_of-requires
node_of-nodes_of-requires t c =
    let l = label_of (kid_view c.args.new) in
    let size : tree_size (kid_view c.args.new) ≡ 1 + list_size (kids_view c.in-Kids.kids) = ap tree_size (c.inside.ensures ∙ ap (with_inside l) c.in-Kids.is) in
    let d = c.decreases in
    (omega arith, c.requires)

pub nodes_of-node_of-requires : goal.nodes_of-node_of-requires
nodes_of-node_of-requires t c =
    let l = c.loop-kid in
    let size : list_size (kids_view l.left) ≡ 4 + tree_size (kid_view c.in-Some.kid) + list_size (kids_view c.in-Some.behind) = ap list_size c.in-Some.ensures.some in
    let smaller = l.invariant.smaller in
    let d = c.decreases in
    (omega arith, c.requires)

pub nodes_of-loop-kid-preserved : goal.nodes_of-loop-kid-preserved
nodes_of-loop-kid-preserved t c =
    let l = c.loop-kid in
    let size : list_size (kids_view l.left) ≡ 4 + tree_size (kid_view c.in-Some.kid) + list_size (kids_view c.in-Some.behind) = ap list_size c.in-Some.ensures.some in
    let smaller = l.invariant.smaller in
    record {
      smaller = omega arith;
      whole = grind (arith, common_steps);
    }
