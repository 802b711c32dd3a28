use Rattle.std.proofs.Common.{◌≡◌, ℕ, ◌++◌, List, sym, subst}
use Rattle.std.specs.Result.{OnOk}
use Rattle.timestamp_tree.specs.Bytes.{stored}
use Rattle.record_writer.proofs.PlaceLaws.{set_at-is}
use Rattle.record_writer.proofs.end.put_node.Goals as goal

pub returns : goal.returns
returns c =
    let node = c.args.node.now in
    let is = set_at-is c.args.sets.now node.set c.index-sets-node.result c.requires c.index-sets-node.is in
    subst (λ (s : List (ℕ × ℕ)). OnOk c.put_stored.result (c.put_stored.new.out.items ≡ c.args.out.now.items ++ stored s node.left)) (sym is) c.put_stored.ensures.ok
