use Rattle.std.proofs.Common.{length, ap, arith}
use Rattle.timestamp_tree.proofs.Trees.{length-set_bytes, length-stored}
use Rattle.record_writer.specs.Places.{set_at}
use Rattle.record_writer.proofs.PlaceLaws.{set_at-is}
use Rattle.record_writer.proofs.plan.own_size.Goals as goal

pub returns : goal.returns
returns c =
    let set = set_at c.args.sets.now c.args.at in
    let is = ap length (set_at-is c.args.sets.now c.args.at c.index-sets-at.result c.requires c.index-sets-at.is) in
    λ left_size. omega (arith, length-stored set left_size, length-set_bytes set, c.count.ensures, is)
