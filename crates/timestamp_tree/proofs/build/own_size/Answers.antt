use Rattle.std.proofs.Common.{arith}
use Rattle.version_set.specs.View.{pairs_of}
use Rattle.timestamp_tree.proofs.Trees.{length-set_bytes, length-stored}
use Rattle.timestamp_tree.proofs.build.own_size.Goals as goal

pub returns : goal.returns
returns c = λ left_size. omega (arith, length-stored (pairs_of c.args.set.now) left_size, length-set_bytes (pairs_of c.args.set.now), c.count.ensures)
