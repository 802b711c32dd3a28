use Rattle.std.proofs.Common.{rules}
use Rattle.given_parts.proofs.Pushed.{alts_pushed}
use Rattle.given_parts.proofs.shapes.alts.Goals as goal

pub loop-pairs-preserved : goal.loop-pairs-preserved
loop-pairs-preserved c = search (rules, alts_pushed)
