use Rattle.std.proofs.Common.{◌≡◌, ◌≤◌, ◌++◌, length}
use Rattle.record_writer.specs.Plans.{above_nodes, spelled}
use Rattle.record_writer.proofs.end.put_nodes.Given as goal

-- the nodes that are left make the whole
abbrev pub invariant-loop-node : goal.invariant-loop-node
invariant-loop-node l =
    record {
      known : above_nodes l.nodes.items ≤ length l.sets;
      wrote : l.out.items ++ spelled l.sets l.nodes.items ≡ l.fn.out.items ++ spelled l.sets l.fn.nodes.items;
    }

abbrev pub decreases-loop-node : goal.decreases-loop-node
decreases-loop-node l = length l.nodes.items
