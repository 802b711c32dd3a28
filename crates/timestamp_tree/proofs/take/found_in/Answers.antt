use Rattle.timestamp_tree.proofs.Contained.{begun_in, behind_it}
use Rattle.timestamp_tree.proofs.take.found_in.Goals as goal

pub returns-then-pair-number : goal.returns-then-pair-number
returns-then-pair-number c = begun_in c.args.found c.args.pair c.args.number c.if-found.false c.if-pair-number.true

pub returns-else-pair-number : goal.returns-else-pair-number
returns-else-pair-number c = behind_it c.args.found c.args.pair c.args.number c.if-found.false c.if-pair-number.false
