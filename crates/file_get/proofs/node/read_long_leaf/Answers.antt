use Rattle.std.proofs.Common.{◌≡◌, ℕ, ◌+◌, ◌-◌, ◌*◌, ◌/◌, ◌≤◌, sym, subst, Option, ◌∙◌, arith}
use Rattle.xa_outside.specs.Folder.{Files}
use Rattle.xa_outside.specs.NumberLaws.{PullsAtMost-more, PullsAtMost-trans}
use Rattle.timestamp_tree.proofs.Trees.{length-set_bytes}
use Rattle.record_cursor.specs.Moves.{TellsFront}
use Rattle.file_get.specs.Searched.{searched}
use Rattle.file_get.proofs.Bodies.{pairs-stand}
use Rattle.file_get.proofs.SetSearch.{searched-all}
use Rattle.file_get.proofs.StoredNodes.{leaf-is, leaf-not, left-stands, length-stored, set-stands}
use Rattle.file_get.proofs.node.read_long_leaf.Goals as goal

pub returns-in-Err-clause-told : goal.returns-in-Err-clause-told
returns-in-Err-clause-told g c = λ last bytes s x ends. (
    let a = c.args in
    let size = length-stored s 0 in
    let within = x.within in
    c.in-Err.ensures.told last 0 bytes x.tells (omega (arith, within, c.requires.room)) (left-stands bytes a.at (a.limit - 8) 0 s (omega (arith, ends, size)) x.stands) x.short)

pub returns-then-is_leaf-clause-pulls : goal.returns-then-is_leaf-clause-pulls
returns-then-is_leaf-clause-pulls g c =
    let n = g.F.Folder.numbers in
    let a = c.args in
    let count = c.in-Ok-read_count.count in
    let all = searched-all count in
    PullsAtMost-more (8 + (4 + 8 * searched count)) (a.limit - a.at) (n a.folder.now) (n c.search_pairs.new.folder) (omega (arith, all, c.in-Ok-read_count.ensures.within, c.requires.room))
    (PullsAtMost-trans 8 (4 + 8 * searched count) (n a.folder.now) (n c.read_left.new.folder) (n c.search_pairs.new.folder) c.in-Ok.ensures.pulls
    (PullsAtMost-trans 4 (8 * searched count) (n c.read_left.new.folder) (n c.read_count.new.folder) (n c.search_pairs.new.folder) c.in-Ok-read_count.ensures.pulls c.search_pairs.ensures.pulls))

pub returns-then-is_leaf-clause-few : goal.returns-then-is_leaf-clause-few
returns-then-is_leaf-clause-few g c =
    let n = g.F.Folder.numbers in
    let a = c.args in
    let count = c.in-Ok-read_count.count in
    let whole = leaf-is c.in-Ok.left count (a.limit - a.at) (sym c.is_leaf.ensures ∙ c.if-is_leaf.true) in
    let same : count ≡ (a.limit - a.at - 12) / 8 = omega (arith, whole) in
    PullsAtMost-more (8 + (4 + 8 * searched count)) (12 + 8 * searched ((a.limit - a.at - 12) / 8)) (n a.folder.now) (n c.search_pairs.new.folder)
    (subst (λ (k : ℕ). 8 + (4 + 8 * searched count) ≤ 12 + 8 * searched k) same (omega arith))
    (PullsAtMost-trans 8 (4 + 8 * searched count) (n a.folder.now) (n c.read_left.new.folder) (n c.search_pairs.new.folder) c.in-Ok.ensures.pulls
    (PullsAtMost-trans 4 (8 * searched count) (n c.read_left.new.folder) (n c.read_count.new.folder) (n c.search_pairs.new.folder) c.in-Ok-read_count.ensures.pulls c.search_pairs.ensures.pulls))

pub returns-then-is_leaf-clause-told : goal.returns-then-is_leaf-clause-told
returns-then-is_leaf-clause-told g c = λ last bytes s x ends. (
    let a = c.args in
    let size = length-stored s 0 in
    let set = length-set_bytes s in
    let within = x.within in
    let on = subst (λ (f : Option Files). TellsFront f a.ask.now.name.now last bytes) (sym c.in-Ok.ensures.reads.same_files) x.tells in
    let later = subst (λ (f : Option Files). TellsFront f a.ask.now.name.now last bytes) (sym c.in-Ok-read_count.ensures.reads.same_files) on in
    let stands = set-stands bytes a.at 0 s x.stands in
    let count = c.in-Ok-read_count.ensures.told last bytes s on (omega (arith, within)) stands (omega (arith, ends, size, set)) x.set in
    c.search_pairs.ensures.told last bytes s later (omega (arith, within, c.in-Ok-read_count.ensures.within, c.requires.room)) (pairs-stand bytes a.at s stands) count x.set)

pub returns-else-is_leaf-clause-pulls : goal.returns-else-is_leaf-clause-pulls
returns-else-is_leaf-clause-pulls g c =
    let n = g.F.Folder.numbers in
    let a = c.args in
    PullsAtMost-more (8 + 4) (a.limit - a.at) (n a.folder.now) (n c.read_count.new.folder) (omega (arith, c.requires.room))
    (PullsAtMost-trans 8 4 (n a.folder.now) (n c.read_left.new.folder) (n c.read_count.new.folder) c.in-Ok.ensures.pulls c.in-Ok-read_count.ensures.pulls)

pub returns-else-is_leaf-clause-few : goal.returns-else-is_leaf-clause-few
returns-else-is_leaf-clause-few g c =
    let n = g.F.Folder.numbers in
    let a = c.args in
    PullsAtMost-more (8 + 4) (12 + 8 * searched ((a.limit - a.at - 12) / 8)) (n a.folder.now) (n c.read_count.new.folder) (omega arith)
    (PullsAtMost-trans 8 4 (n a.folder.now) (n c.read_left.new.folder) (n c.read_count.new.folder) c.in-Ok.ensures.pulls c.in-Ok-read_count.ensures.pulls)

pub returns-else-is_leaf-clause-told : goal.returns-else-is_leaf-clause-told
returns-else-is_leaf-clause-told g c = λ last bytes s x ends. (
    let a = c.args in
    let size = length-stored s 0 in
    let set = length-set_bytes s in
    let within = x.within in
    let on = subst (λ (f : Option Files). TellsFront f a.ask.now.name.now last bytes) (sym c.in-Ok.ensures.reads.same_files) x.tells in
    let count = c.in-Ok-read_count.ensures.told last bytes s on (omega (arith, within)) (set-stands bytes a.at 0 s x.stands) (omega (arith, ends, size, set)) x.set in
    let none = c.in-Ok.ensures.told last 0 bytes x.tells (omega (arith, within, c.requires.room)) (left-stands bytes a.at (a.limit - 8) 0 s (omega (arith, ends, size)) x.stands) x.short in
    leaf-not c.in-Ok.left c.in-Ok-read_count.count (a.limit - a.at) (sym c.is_leaf.ensures ∙ c.if-is_leaf.false) none (omega (arith, count, ends, size)))

pub returns-in-Err-read_count-clause-pulls : goal.returns-in-Err-read_count-clause-pulls
returns-in-Err-read_count-clause-pulls g c =
    let n = g.F.Folder.numbers in
    let a = c.args in
    PullsAtMost-more (8 + 4) (a.limit - a.at) (n a.folder.now) (n c.read_count.new.folder) (omega (arith, c.requires.room))
    (PullsAtMost-trans 8 4 (n a.folder.now) (n c.read_left.new.folder) (n c.read_count.new.folder) c.in-Ok.ensures.pulls c.in-Err-read_count.ensures.pulls)

pub returns-in-Err-read_count-clause-few : goal.returns-in-Err-read_count-clause-few
returns-in-Err-read_count-clause-few g c =
    let n = g.F.Folder.numbers in
    let a = c.args in
    PullsAtMost-more (8 + 4) (12 + 8 * searched ((a.limit - a.at - 12) / 8)) (n a.folder.now) (n c.read_count.new.folder) (omega arith)
    (PullsAtMost-trans 8 4 (n a.folder.now) (n c.read_left.new.folder) (n c.read_count.new.folder) c.in-Ok.ensures.pulls c.in-Err-read_count.ensures.pulls)

pub returns-in-Err-read_count-clause-told : goal.returns-in-Err-read_count-clause-told
returns-in-Err-read_count-clause-told g c = λ last bytes s x ends. (
    let a = c.args in
    let size = length-stored s 0 in
    let set = length-set_bytes s in
    let within = x.within in
    let on = subst (λ (f : Option Files). TellsFront f a.ask.now.name.now last bytes) (sym c.in-Ok.ensures.reads.same_files) x.tells in
    c.in-Err-read_count.ensures.told last bytes s on (omega (arith, within)) (set-stands bytes a.at 0 s x.stands) (omega (arith, ends, size, set)) x.set)
