use Rattle.std.proofs.Common.{arith}
use Rattle.version_set.proofs.Ends.{length_within}
use Rattle.version_set.proofs.pairs.count_of.Goals as goal

pub prove-unreachable-requires : goal.prove-unreachable-requires
prove-unreachable-requires c = omega (arith, length_within c.args.pairs.now c.requires)
