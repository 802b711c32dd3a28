use Rattle.std.proofs.Common.{◌≤◌, List, length, subst}
use Rattle.record_writer.specs.Plans.{above_nodes}
use Rattle.record_writer.specs.declared.plan.TreeNode.{TreeNode}
use Rattle.record_writer.proofs.PlanLaws.{nodes-front, node-written}
use Rattle.record_writer.proofs.end.put_nodes.Goals as goal

pub put_node-requires : goal.put_node-requires
put_node-requires c =
    let n = length c.args.sets.now in
    (nodes-front c.pop.new.self.items c.in-Some.node n (subst (λ (ns : List TreeNode). above_nodes ns ≤ n) c.in-Some.ensures.items c.loop-node.invariant.known)).1

pub loop-node-preserved : goal.loop-node-preserved
loop-node-preserved c =
    let n = length c.args.sets.now in
    record {
      known = (nodes-front c.pop.new.self.items c.in-Some.node n (subst (λ (ns : List TreeNode). above_nodes ns ≤ n) c.in-Some.ensures.items c.loop-node.invariant.known)).0;
      wrote = node-written c.loop-node.out.items c.put_node.new.out.items _ c.args.sets.now c.loop-node.nodes.items c.pop.new.self.items c.in-Some.node c.in-Some.ensures.items c.in_ok-put_node.ensures c.loop-node.invariant.wrote;
    }
