use Rattle.std.proofs.Common.{◌≡◌, ℕ, ◌+◌, ◌-◌, ◌*◌, ◌/◌, ◌≤◌, length, sym, subst, arith}
use Rattle.xa_outside.specs.Numbers.{PullsAtMost}
use Rattle.xa_outside.specs.NumberLaws.{PullsAtMost-more, PullsAtMost-trans}
use Rattle.record_cursor.specs.Moves.{TellsFront}
use Rattle.file_get.specs.Searched.{searched}
use Rattle.file_get.proofs.Bodies.{pairs-stand, set-is}
use Rattle.file_get.proofs.SetSearch.{searched-all}
use Rattle.file_get.proofs.body.read_set.Goals as goal

pub returns-in-Err-clause-told : goal.returns-in-Err-clause-told
returns-in-Err-clause-told g c = λ last bytes s tells within stands fits is. (
    let n = g.F.Folder.numbers in
    let e = c.in-Err.ensures in
    (e.told last bytes s tells within stands fits is, PullsAtMost-more 4 (4 + 8 * searched (length s)) (n c.args.folder.now) (n c.read_count.new.folder) (omega arith) e.pulls))

pub returns-in-Ok-search_pairs-clause-told : goal.returns-in-Ok-search_pairs-clause-told
returns-in-Ok-search_pairs-clause-told g c = λ last bytes s tells within stands fits is. (
    let a = c.args in
    let n = g.F.Folder.numbers in
    let f = c.in-Ok.ensures in
    let b = c.in-Ok-search_pairs.ensures in
    let count = c.in-Ok.count in
    let size = f.told last bytes s tells within stands fits is in
    let read = f.reads in (
      set-is a.ask.now.version a.at count s c.in-Ok-search_pairs.has size (b.told last bytes s (subst (λ z. TellsFront z a.ask.now.name.now last bytes) (sym read.same_files) tells) (omega (arith, f.within, within)) (pairs-stand bytes a.at s stands) size is),
      subst (λ (k : ℕ). PullsAtMost (4 + 8 * searched k) (n a.folder.now) (n c.search_pairs.new.folder)) size (PullsAtMost-trans 4 (8 * searched count) (n a.folder.now) (n c.read_count.new.folder) (n c.search_pairs.new.folder) f.pulls b.pulls),
    ))

pub returns-in-Err-search_pairs-clause-told : goal.returns-in-Err-search_pairs-clause-told
returns-in-Err-search_pairs-clause-told g c = λ last bytes s tells within stands fits is. (
    let a = c.args in
    let n = g.F.Folder.numbers in
    let f = c.in-Ok.ensures in
    let b = c.in-Err-search_pairs.ensures in
    let count = c.in-Ok.count in
    let size = f.told last bytes s tells within stands fits is in
    let read = f.reads in (
      b.told last bytes s (subst (λ z. TellsFront z a.ask.now.name.now last bytes) (sym read.same_files) tells) (omega (arith, f.within, within)) (pairs-stand bytes a.at s stands) size is,
      subst (λ (k : ℕ). PullsAtMost (4 + 8 * searched k) (n a.folder.now) (n c.search_pairs.new.folder)) size (PullsAtMost-trans 4 (8 * searched count) (n a.folder.now) (n c.read_count.new.folder) (n c.search_pairs.new.folder) f.pulls b.pulls),
    ))

pub returns-in-Ok-search_pairs-clause-pulls : goal.returns-in-Ok-search_pairs-clause-pulls
returns-in-Ok-search_pairs-clause-pulls g c =
    let a = c.args in
    let n = g.F.Folder.numbers in
    let f = c.in-Ok.ensures in
    let b = c.in-Ok-search_pairs.ensures in
    let count = c.in-Ok.count in
    let all = searched-all count in
    PullsAtMost-more (4 + 8 * searched count) (a.end - a.at) (n a.folder.now) (n c.search_pairs.new.folder) (omega (arith, f.within, all)) (PullsAtMost-trans 4 (8 * searched count) (n a.folder.now) (n c.read_count.new.folder) (n c.search_pairs.new.folder) f.pulls b.pulls)

pub returns-in-Err-search_pairs-clause-pulls : goal.returns-in-Err-search_pairs-clause-pulls
returns-in-Err-search_pairs-clause-pulls g c =
    let a = c.args in
    let n = g.F.Folder.numbers in
    let f = c.in-Ok.ensures in
    let b = c.in-Err-search_pairs.ensures in
    let count = c.in-Ok.count in
    let all = searched-all count in
    PullsAtMost-more (4 + 8 * searched count) (a.end - a.at) (n a.folder.now) (n c.search_pairs.new.folder) (omega (arith, f.within, all)) (PullsAtMost-trans 4 (8 * searched count) (n a.folder.now) (n c.read_count.new.folder) (n c.search_pairs.new.folder) f.pulls b.pulls)

pub returns-in-Ok-search_pairs-clause-most : goal.returns-in-Ok-search_pairs-clause-most
returns-in-Ok-search_pairs-clause-most g c =
    let a = c.args in
    let n = g.F.Folder.numbers in
    let f = c.in-Ok.ensures in
    let b = c.in-Ok-search_pairs.ensures in
    let count = c.in-Ok.count in
    let all = searched-all count in
    PullsAtMost-more (4 + 8 * searched count) (a.at + 4 + 8 * count - a.at) (n a.folder.now) (n c.search_pairs.new.folder) (omega (arith, all)) (PullsAtMost-trans 4 (8 * searched count) (n a.folder.now) (n c.read_count.new.folder) (n c.search_pairs.new.folder) f.pulls b.pulls)

pub returns-in-Ok-search_pairs-clause-few : goal.returns-in-Ok-search_pairs-clause-few
returns-in-Ok-search_pairs-clause-few g c =
    let a = c.args in
    let n = g.F.Folder.numbers in
    let count = c.in-Ok.count in
    let same : count ≡ (a.at + 4 + 8 * count - a.at - 4) / 8 = omega arith in
    PullsAtMost-more (4 + 8 * searched count) (4 + 8 * searched ((a.at + 4 + 8 * count - a.at - 4) / 8)) (n a.folder.now) (n c.search_pairs.new.folder)
    (subst (λ (k : ℕ). 4 + 8 * searched count ≤ 4 + 8 * searched k) same (omega arith))
    (PullsAtMost-trans 4 (8 * searched count) (n a.folder.now) (n c.read_count.new.folder) (n c.search_pairs.new.folder) c.in-Ok.ensures.pulls c.in-Ok-search_pairs.ensures.pulls)
