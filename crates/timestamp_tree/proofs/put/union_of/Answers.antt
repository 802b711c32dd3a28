use Rattle.std.proofs.Common.{List, ℕ, ap, ◌∙◌}
use Rattle.version_set.specs.View.{pairs_of}
use Rattle.version_set.specs.Members.{united}
use Rattle.timestamp_tree.proofs.Reversed.{united_same}
use Rattle.timestamp_tree.proofs.put.union_of.Goals as goal

pub returns-then-same : goal.returns-then-same
returns-then-same c = united_same (pairs_of c.args.left) c.args.left.canonical ∙ ap (λ (qs : List (ℕ × ℕ)). united (pairs_of c.args.left) qs) (c.same.ensures.pairs.0 c.if-same.true)
