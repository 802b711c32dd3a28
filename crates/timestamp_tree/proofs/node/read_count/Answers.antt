use Rattle.std.proofs.lemmas.Grind.{common_steps}
use Rattle.std.proofs.Common.{arith}
use Rattle.std.specs.FinMap as map
use Rattle.xa_outside.specs.Folder.{bytes_or_none}
use Rattle.timestamp_tree.specs.Nodes.{piece_of}
use Rattle.timestamp_tree.proofs.Pieces.{piece_within, no_count}
use Rattle.timestamp_tree.proofs.Stored.{too_few}
use Rattle.timestamp_tree.proofs.node.read_count.Goals as goal

pub returns-then-limit-at-lt-LEAST-clause-told : goal.returns-then-limit-at-lt-LEAST-clause-told
returns-then-limit-at-lt-LEAST-clause-told g c = λ files told most. (
    let within = piece_within (bytes_or_none (map.get files c.args.name.now)) c.args.at c.args.limit in
    too_few most (piece_of files c.args.name.now c.args.at c.args.limit) (omega (arith, within, c.if-limit-at-lt-LEAST.true)))

pub returns-in-Ok-clause-told : goal.returns-in-Ok-clause-told
returns-in-Ok-clause-told g c = λ files told. (
    let piece = piece_of files c.args.name.now c.args.at c.args.limit in
    let within = piece_within (bytes_or_none (map.get files c.args.name.now)) c.args.at c.args.limit in
    c.count_within.ensures.told piece within (c.in-Ok.ensures.told files c.args.limit told (omega (arith, c.if-limit-at-lt-LEAST.false))))

pub returns-in-Err-clause-told : goal.returns-in-Err-clause-told
returns-in-Err-clause-told g c = λ files told. (
    let piece = piece_of files c.args.name.now c.args.at c.args.limit in
    no_count piece c.in-Err.fault (c.in-Err.ensures.told files c.args.limit told (omega (arith, c.if-limit-at-lt-LEAST.false))))

pub returns-then-limit-at-lt-LEAST-clause-reads : goal.returns-then-limit-at-lt-LEAST-clause-reads
returns-then-limit-at-lt-LEAST-clause-reads g c = grind (arith, common_steps)

pub returns-then-limit-at-lt-LEAST-clause-pulls : goal.returns-then-limit-at-lt-LEAST-clause-pulls
returns-then-limit-at-lt-LEAST-clause-pulls g c = grind (arith, common_steps)

pub returns-in-Ok-clause-reads : goal.returns-in-Ok-clause-reads
returns-in-Ok-clause-reads g c = grind (arith, common_steps)

pub returns-in-Ok-clause-within : goal.returns-in-Ok-clause-within
returns-in-Ok-clause-within g c = grind (arith, common_steps)

pub returns-in-Ok-clause-numbers : goal.returns-in-Ok-clause-numbers
returns-in-Ok-clause-numbers g c = grind (arith, common_steps)

pub returns-in-Ok-clause-pulls : goal.returns-in-Ok-clause-pulls
returns-in-Ok-clause-pulls g c = grind (arith, common_steps)

pub returns-in-Ok-clause-inside : goal.returns-in-Ok-clause-inside
returns-in-Ok-clause-inside g c = grind (arith, common_steps)

pub returns-in-Err-clause-reads : goal.returns-in-Err-clause-reads
returns-in-Err-clause-reads g c = grind (arith, common_steps)

pub returns-in-Err-clause-within : goal.returns-in-Err-clause-within
returns-in-Err-clause-within g c = grind (arith, common_steps)

pub returns-in-Err-clause-numbers : goal.returns-in-Err-clause-numbers
returns-in-Err-clause-numbers g c = grind (arith, common_steps)

pub returns-in-Err-clause-pulls : goal.returns-in-Err-clause-pulls
returns-in-Err-clause-pulls g c = grind (arith, common_steps)

pub returns-in-Err-clause-inside : goal.returns-in-Err-clause-inside
returns-in-Err-clause-inside g c = grind (arith, common_steps)
