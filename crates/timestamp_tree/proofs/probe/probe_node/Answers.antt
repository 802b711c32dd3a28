use Rattle.std.proofs.lemmas.Grind.{common_steps}
use Rattle.std.proofs.Common.{◌+◌, ◌-◌, ◌*◌, ◌<◌, length, arith}
use Rattle.std.specs.FinMap as map
use Rattle.xa_outside.specs.Folder.{bytes_or_none}
use Rattle.xa_outside.specs.NumberLaws.{PullsAtMost-more, PullsAtMost-trans}
use Rattle.timestamp_tree.specs.Nodes.{piece_of}
use Rattle.timestamp_tree.proofs.Pieces.{damage_map, piece_within}
use Rattle.timestamp_tree.proofs.Probed.{some_long, too_few_some}
use Rattle.timestamp_tree.proofs.probe.probe_node.Goals as goal

pub returns-then-limit-at-lt-LEAST-clause-told : goal.returns-then-limit-at-lt-LEAST-clause-told
returns-then-limit-at-lt-LEAST-clause-told g c = λ files told. (
    let a = c.args in
    let within = piece_within (bytes_or_none (map.get files a.name.now)) a.at a.limit in
    too_few_some a.most (piece_of files a.name.now a.at a.limit) (omega (arith, within, c.if-limit-at-lt-LEAST.true)))

pub returns-in-Ok-clause-pulls : goal.returns-in-Ok-clause-pulls
returns-in-Ok-clause-pulls g c =
    let a = c.args in
    let n = g.F.Folder.numbers in
    let room = a.limit - a.at in
    PullsAtMost-more (20 + (room - 20)) room (n a.folder.now) (n c.probe_begun.new.folder) (omega (arith, c.if-limit-at-lt-LEAST.false)) (PullsAtMost-trans 20 (room - 20) (n a.folder.now) (n c.fill.new.folder) (n c.probe_begun.new.folder) c.in-Ok.ensures.pulls c.probe_begun.ensures.pulls)

pub returns-in-Ok-clause-only : goal.returns-in-Ok-clause-only
returns-in-Ok-clause-only g c = λ files rest set left told stands. (
    let a = c.args in
    let n = g.F.Folder.numbers in
    let piece = piece_of files a.name.now a.at a.limit in
    let within = piece_within (bytes_or_none (map.get files a.name.now)) a.at a.limit in
    let front = c.in-Ok.ensures.told files a.limit told (omega (arith, c.if-limit-at-lt-LEAST.false)) in
    let behind = c.probe_begun.ensures.only piece rest set left within front stands in
    let some = some_long a.most piece rest set left stands in
    PullsAtMost-more (20 + (8 * length set - 8)) (12 + 8 * length set) (n a.folder.now) (n c.probe_begun.new.folder) (omega (arith, some)) (PullsAtMost-trans 20 (8 * length set - 8) (n a.folder.now) (n c.fill.new.folder) (n c.probe_begun.new.folder) c.in-Ok.ensures.pulls behind))

pub returns-in-Err-clause-told : goal.returns-in-Err-clause-told
returns-in-Err-clause-told g c = λ files told. (
    let a = c.args in
    let piece = piece_of files a.name.now a.at a.limit in
    damage_map c.in-Err.fault (length piece < 20) _ (too_few_some a.most piece) (c.in-Err.ensures.told files a.limit told (omega (arith, c.if-limit-at-lt-LEAST.false))))

pub returns-in-Err-clause-only : goal.returns-in-Err-clause-only
returns-in-Err-clause-only g c = λ files rest set left told stands. (
    let a = c.args in
    let n = g.F.Folder.numbers in
    let some = some_long a.most (piece_of files a.name.now a.at a.limit) rest set left stands in
    PullsAtMost-more 20 (12 + 8 * length set) (n a.folder.now) (n c.fill.new.folder) (omega (arith, some)) c.in-Err.ensures.pulls)

pub returns-then-limit-at-lt-LEAST-clause-reads : goal.returns-then-limit-at-lt-LEAST-clause-reads
returns-then-limit-at-lt-LEAST-clause-reads g c = grind (arith, common_steps)

pub returns-then-limit-at-lt-LEAST-clause-pulls : goal.returns-then-limit-at-lt-LEAST-clause-pulls
returns-then-limit-at-lt-LEAST-clause-pulls g c = grind (arith, common_steps)

pub returns-then-limit-at-lt-LEAST-clause-only : goal.returns-then-limit-at-lt-LEAST-clause-only
returns-then-limit-at-lt-LEAST-clause-only g c = grind (arith, common_steps)

pub returns-in-Ok-clause-reads : goal.returns-in-Ok-clause-reads
returns-in-Ok-clause-reads g c = grind (arith, common_steps)

pub returns-in-Ok-clause-within : goal.returns-in-Ok-clause-within
returns-in-Ok-clause-within g c = grind (arith, common_steps)

pub returns-in-Ok-clause-numbers : goal.returns-in-Ok-clause-numbers
returns-in-Ok-clause-numbers g c = grind (arith, common_steps)

pub returns-in-Ok-clause-told : goal.returns-in-Ok-clause-told
returns-in-Ok-clause-told g c = grind (arith, common_steps)

pub returns-in-Err-clause-reads : goal.returns-in-Err-clause-reads
returns-in-Err-clause-reads g c = grind (arith, common_steps)

pub returns-in-Err-clause-within : goal.returns-in-Err-clause-within
returns-in-Err-clause-within g c = grind (arith, common_steps)

pub returns-in-Err-clause-numbers : goal.returns-in-Err-clause-numbers
returns-in-Err-clause-numbers g c = grind (arith, common_steps)

pub returns-in-Err-clause-pulls : goal.returns-in-Err-clause-pulls
returns-in-Err-clause-pulls g c = grind (arith, common_steps)
