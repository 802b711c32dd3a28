use Rattle.std.proofs.Common.{◌≡◌, ◌+◌, ◌*◌, length, sym, subst, Option, arith}
use Rattle.xa_outside.specs.Folder.{Files}
use Rattle.xa_outside.specs.NumberLaws.{PullsAtMost-trans}
use Rattle.timestamp_tree.specs.Bytes.{stored}
use Rattle.record_cursor.specs.Moves.{TellsFront}
use Rattle.file_get.specs.Searched.{searched}
use Rattle.file_get.proofs.Bodies.{pairs-stand}
use Rattle.file_get.proofs.StoredNodes.{left-stands, length-stored, set-stands}
use Rattle.file_get.proofs.node.read_long.Goals as goal

pub returns-in-Err-clause-told : goal.returns-in-Err-clause-told
returns-in-Err-clause-told g c = λ last left bytes s x count. (
    let a = c.args in
    let within = x.within in
    c.in-Err.ensures.told last left bytes x.tells (omega (arith, within)) (left-stands bytes a.at (a.at + 4 + 8 * a.count) left s (omega (arith, count)) x.stands) x.short)

pub returns-in-Ok-search_pairs-clause-pulls : goal.returns-in-Ok-search_pairs-clause-pulls
returns-in-Ok-search_pairs-clause-pulls g c =
    let n = g.F.Folder.numbers in
    PullsAtMost-trans 8 (8 * searched c.args.count) (n c.args.folder.now) (n c.read_left.new.folder) (n c.search_pairs.new.folder) c.in-Ok.ensures.pulls c.in-Ok-search_pairs.ensures.pulls

pub returns-in-Ok-search_pairs-clause-told : goal.returns-in-Ok-search_pairs-clause-told
returns-in-Ok-search_pairs-clause-told g c = λ last left bytes s x count. (
    let a = c.args in
    let within = x.within in
    let size = length-stored s left in
    let own : 12 + 8 * a.count ≡ length (stored s left) = omega (arith, count, size) in
    let behind = c.in-Ok.ensures.told last left bytes x.tells (omega (arith, within)) (left-stands bytes a.at (a.at + 4 + 8 * a.count) left s (omega (arith, count)) x.stands) x.short in
    let on = subst (λ (f : Option Files). TellsFront f a.ask.now.name.now last bytes) (sym c.in-Ok.ensures.reads.same_files) x.tells in
    let has = c.in-Ok-search_pairs.ensures.told last bytes s on (omega (arith, within)) (pairs-stand bytes a.at s (set-stands bytes a.at left s x.stands)) count x.set in
    λ i. (has i, behind i, own i))

pub returns-in-Err-search_pairs-clause-pulls : goal.returns-in-Err-search_pairs-clause-pulls
returns-in-Err-search_pairs-clause-pulls g c =
    let n = g.F.Folder.numbers in
    PullsAtMost-trans 8 (8 * searched c.args.count) (n c.args.folder.now) (n c.read_left.new.folder) (n c.search_pairs.new.folder) c.in-Ok.ensures.pulls c.in-Err-search_pairs.ensures.pulls

pub returns-in-Err-search_pairs-clause-told : goal.returns-in-Err-search_pairs-clause-told
returns-in-Err-search_pairs-clause-told g c = λ last left bytes s x count. (
    let a = c.args in
    let within = x.within in
    let on = subst (λ (f : Option Files). TellsFront f a.ask.now.name.now last bytes) (sym c.in-Ok.ensures.reads.same_files) x.tells in
    c.in-Err-search_pairs.ensures.told last bytes s on (omega (arith, within)) (pairs-stand bytes a.at s (set-stands bytes a.at left s x.stands)) count x.set)
