use Rattle.std.proofs.lemmas.Grind.{common_steps}
use Rattle.std.proofs.Common.{◌+◌, ◌-◌, ◌*◌, length, take, ◌∙◌, arith}
use Rattle.std.specs.FinMap as map
use Rattle.xa_outside.specs.Folder.{bytes_or_none}
use Rattle.timestamp_tree.specs.Nodes.{piece_of}
use Rattle.timestamp_tree.proofs.Pieces.{pulled_both, node_told, count_stands}
use Rattle.version_set.specs.declared.limits.TheConstants.{GREATEST_NUMBER}
use Rattle.timestamp_tree.proofs.node.read_node.Goals as goal

pub returns-in-Ok-clause-pulls : goal.returns-in-Ok-clause-pulls
returns-in-Ok-clause-pulls g c =
    pulled_both (c.args.limit - c.args.at) c.in-Ok.count (g.F.Folder.numbers c.args.folder.now) (g.F.Folder.numbers c.read_count.new.folder) (g.F.Folder.numbers c.read_parts.new.folder)
    (omega (arith, c.in-Ok.ensures.within)) c.in-Ok.ensures.numbers c.read_parts.ensures.pulls

pub returns-in-Ok-clause-told : goal.returns-in-Ok-clause-told
returns-in-Ok-clause-told g c = λ files told. (
    let front = take c.args.limit (bytes_or_none (map.get files c.args.name.now)) in
    let count = c.in-Ok.ensures.told files told in
    let parts = c.read_parts.ensures.told files c.args.limit (c.in-Ok.ensures.reads.same_files ∙ told) (omega (arith, c.in-Ok.ensures.within)) in
    node_told GREATEST_NUMBER c.in-Ok.count c.args.at front c.read_parts.result count c.read_parts.ensures.size parts)

pub returns-in-Ok-clause-only : goal.returns-in-Ok-clause-only
returns-in-Ok-clause-only g c = λ files rest set left told stands. (
    let piece = piece_of files c.args.name.now c.args.at c.args.limit in
    let same = count_stands GREATEST_NUMBER c.in-Ok.count piece rest set left (c.in-Ok.ensures.told files told) stands in
    pulled_both (12 + 8 * length set) c.in-Ok.count (g.F.Folder.numbers c.args.folder.now) (g.F.Folder.numbers c.read_count.new.folder) (g.F.Folder.numbers c.read_parts.new.folder)
    (omega (arith, same)) c.in-Ok.ensures.numbers c.read_parts.ensures.pulls)

pub returns-in-Ok-clause-reads : goal.returns-in-Ok-clause-reads
returns-in-Ok-clause-reads g c = grind (arith, common_steps)

pub returns-in-Ok-clause-size : goal.returns-in-Ok-clause-size
returns-in-Ok-clause-size g c = grind (arith, common_steps)

pub returns-in-Ok-clause-within : goal.returns-in-Ok-clause-within
returns-in-Ok-clause-within g c = grind (arith, common_steps)

pub returns-in-Ok-clause-numbers : goal.returns-in-Ok-clause-numbers
returns-in-Ok-clause-numbers g c = grind (arith, common_steps)

pub returns-in-Err-clause-reads : goal.returns-in-Err-clause-reads
returns-in-Err-clause-reads g c = grind (arith, common_steps)

pub returns-in-Err-clause-size : goal.returns-in-Err-clause-size
returns-in-Err-clause-size g c = grind (arith, common_steps)

pub returns-in-Err-clause-within : goal.returns-in-Err-clause-within
returns-in-Err-clause-within g c = grind (arith, common_steps)

pub returns-in-Err-clause-numbers : goal.returns-in-Err-clause-numbers
returns-in-Err-clause-numbers g c = grind (arith, common_steps)

pub returns-in-Err-clause-pulls : goal.returns-in-Err-clause-pulls
returns-in-Err-clause-pulls g c = grind (arith, common_steps)

pub returns-in-Err-clause-told : goal.returns-in-Err-clause-told
returns-in-Err-clause-told g c = grind (arith, common_steps)

pub returns-in-Err-clause-only : goal.returns-in-Err-clause-only
returns-in-Err-clause-only g c = grind (arith, common_steps)
