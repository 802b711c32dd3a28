use Rattle.std.proofs.Common.{length}
use Rattle.keyed_parts.specs.View.{kids_view}
use Rattle.new_archive.proofs.fresh.count_kids.Given as goal

abbrev pub decreases-loop-behind : goal.decreases-loop-behind
decreases-loop-behind l = length (kids_view l.left)
