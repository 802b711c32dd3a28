use Rattle.std.proofs.Common.{rules}
use Rattle.given_parts.proofs.Pushed.{keys_pushed}
use Rattle.given_parts.proofs.shapes.keys.Goals as goal

pub loop-value-preserved : goal.loop-value-preserved
loop-value-preserved c = search (rules, keys_pushed)
