use Rattle.std.proofs.lemmas.Grind.{common_steps}
use Rattle.std.proofs.Common.{◌≡◌, ℕ, ◌+◌, ◌-◌, ◌*◌, ◌≤◌, drop, length, Some, subst, arith}
use Rattle.std.specs.FinMap as map
use Rattle.std.specs.Int.{w32}
use Rattle.xa_fields.specs.Reading.{number_at}
use Rattle.xa_outside.specs.Folder.{bytes_or_none}
use Rattle.xa_outside.specs.Numbers.{PullsAtMost}
use Rattle.timestamp_tree.specs.Nodes.{piece_of}
use Rattle.timestamp_tree.proofs.Pieces.{piece_within}
use Rattle.timestamp_tree.proofs.Probed.{damage_some, empty_stands, first_four, some_count}
use Rattle.timestamp_tree.proofs.probe.probe_begun.Goals as goal

pub returns-in-Ok-eq0-clause-told : goal.returns-in-Ok-eq0-clause-told
returns-in-Ok-eq0-clause-told g c = λ files told front. (
    let a = c.args in
    let piece = piece_of files a.name.now a.at (a.at + a.room) in
    let within = piece_within (bytes_or_none (map.get files a.name.now)) a.at (a.at + a.room) in
    let small : length piece ≤ a.room = omega (arith, within) in
    let none = c.in-Ok-eq0 in
    let zero : none.field-0 ≡ 0 = omega arith in
    empty_stands a.most piece (subst (λ (n : ℕ). number_at w32 piece ≡ Some (n, drop 4 piece)) zero (none.ensures.told piece small (first_four a.front.now piece front))))

pub returns-in-Ok-clause-only : goal.returns-in-Ok-clause-only
returns-in-Ok-clause-only g c = λ piece rest set left small front stands. (
    let a = c.args in
    let n = g.F.Folder.numbers in
    let count = c.in-Ok.count in
    let same = some_count a.most count piece rest set left (c.in-Ok.ensures.told piece small (first_four a.front.now piece front)) stands in
    subst (λ (k : ℕ). PullsAtMost (8 * k - 8) (n a.folder.now) (n c.probe_parts.new.folder)) same c.probe_parts.ensures.pulls)

pub returns-in-Err-clause-told : goal.returns-in-Err-clause-told
returns-in-Err-clause-told g c = λ files told front. (
    let a = c.args in
    let piece = piece_of files a.name.now a.at (a.at + a.room) in
    let within = piece_within (bytes_or_none (map.get files a.name.now)) a.at (a.at + a.room) in
    let small : length piece ≤ a.room = omega (arith, within) in
    damage_some a.most piece c.in-Err.fault (c.in-Err.ensures.told piece small (first_four a.front.now piece front)))

pub returns-in-Ok-eq0-clause-reads : goal.returns-in-Ok-eq0-clause-reads
returns-in-Ok-eq0-clause-reads g c = grind (arith, common_steps)

pub returns-in-Ok-eq0-clause-within : goal.returns-in-Ok-eq0-clause-within
returns-in-Ok-eq0-clause-within g c = grind (arith, common_steps)

pub returns-in-Ok-eq0-clause-numbers : goal.returns-in-Ok-eq0-clause-numbers
returns-in-Ok-eq0-clause-numbers g c = grind (arith, common_steps)

pub returns-in-Ok-eq0-clause-pulls : goal.returns-in-Ok-eq0-clause-pulls
returns-in-Ok-eq0-clause-pulls g c = grind (arith, common_steps)

pub returns-in-Ok-eq0-clause-only : goal.returns-in-Ok-eq0-clause-only
returns-in-Ok-eq0-clause-only g c = grind (arith, common_steps)

pub returns-in-Ok-clause-reads : goal.returns-in-Ok-clause-reads
returns-in-Ok-clause-reads g c = grind (arith, common_steps)

pub returns-in-Ok-clause-within : goal.returns-in-Ok-clause-within
returns-in-Ok-clause-within g c = grind (arith, common_steps)

pub returns-in-Ok-clause-numbers : goal.returns-in-Ok-clause-numbers
returns-in-Ok-clause-numbers g c = grind (arith, common_steps)

pub returns-in-Ok-clause-pulls : goal.returns-in-Ok-clause-pulls
returns-in-Ok-clause-pulls g c = grind (arith, common_steps)

pub returns-in-Err-clause-reads : goal.returns-in-Err-clause-reads
returns-in-Err-clause-reads g c = grind (arith, common_steps)

pub returns-in-Err-clause-within : goal.returns-in-Err-clause-within
returns-in-Err-clause-within g c = grind (arith, common_steps)

pub returns-in-Err-clause-numbers : goal.returns-in-Err-clause-numbers
returns-in-Err-clause-numbers g c = grind (arith, common_steps)

pub returns-in-Err-clause-pulls : goal.returns-in-Err-clause-pulls
returns-in-Err-clause-pulls g c = grind (arith, common_steps)

pub returns-in-Err-clause-only : goal.returns-in-Err-clause-only
returns-in-Err-clause-only g c = grind (arith, common_steps)
