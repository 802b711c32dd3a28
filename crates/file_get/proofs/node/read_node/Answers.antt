use Rattle.std.proofs.Common.{◌+◌, ◌-◌, length, arith}
use Rattle.xa_outside.specs.NumberLaws.{PullsAtMost-more, PullsAtMost-trans}
use Rattle.file_get.specs.Searched.{inner_read}
use Rattle.file_get.proofs.StoredNodes.{begun-few, begun-most, length-stored, told-later, twenty-read}
use Rattle.file_get.proofs.node.read_node.Goals as goal

pub returns-then-limit-at-clause-told : goal.returns-then-limit-at-clause-told
returns-then-limit-at-clause-told g c = λ last left bytes s x. (
    let fits = x.fits in
    let some = x.some in
    let size = length-stored s left in
    absurd (omega (arith, fits, some, size, c.if-limit-at.true)))

pub returns-in-Ok-clause-most : goal.returns-in-Ok-clause-most
returns-in-Ok-clause-most g c =
    let n = g.F.Folder.numbers in
    begun-most (n c.args.folder.now) (n c.fill_first.new.folder) (n c.read_begun.new.folder) c.in-Ok.ensures.pulls c.args.at c.args.limit c.read_begun.result c.read_begun.ensures.within c.read_begun.ensures.most

pub returns-in-Ok-clause-few : goal.returns-in-Ok-clause-few
returns-in-Ok-clause-few g c =
    let n = g.F.Folder.numbers in
    begun-few (n c.args.folder.now) (n c.fill_first.new.folder) (n c.read_begun.new.folder) c.in-Ok.ensures.pulls c.read_begun.result c.read_begun.ensures.few

pub returns-in-Ok-clause-pulls : goal.returns-in-Ok-clause-pulls
returns-in-Ok-clause-pulls g c =
    let n = g.F.Folder.numbers in
    let a = c.args in
    let rest = a.limit - a.at - 20 in
    PullsAtMost-more (20 + rest) (a.limit - a.at) (n a.folder.now) (n c.read_begun.new.folder) (omega (arith, c.if-limit-at.false)) (PullsAtMost-trans 20 rest (n a.folder.now) (n c.fill_first.new.folder) (n c.read_begun.new.folder) c.in-Ok.ensures.pulls c.read_begun.ensures.pulls)

pub returns-in-Ok-clause-told : goal.returns-in-Ok-clause-told
returns-in-Ok-clause-told g c = λ last left bytes s x. (
    let n = g.F.Folder.numbers in
    let a = c.args in
    let fits = x.fits in
    let some = x.some in
    let within = x.within in
    let size = length-stored s left in
    let begun = twenty-read (length s) some in
    let front = c.in-Ok.ensures.told last bytes x.tells (omega (arith, fits, some, within, size)) in
    let read = c.in-Ok.ensures.reads in
    let got = c.read_begun.ensures.told last left bytes s (told-later (g.F.Folder.files a.folder.now) (g.F.Folder.files c.fill_first.new.folder) a.ask.now.name.now bytes last a.at a.limit s left read.same_files x) front in (
      got.0,
      PullsAtMost-more (20 + (inner_read (length s) - 20)) (inner_read (length s)) (n a.folder.now) (n c.read_begun.new.folder) (omega (arith, begun)) (PullsAtMost-trans 20 (inner_read (length s) - 20) (n a.folder.now) (n c.fill_first.new.folder) (n c.read_begun.new.folder) c.in-Ok.ensures.pulls got.1),
    ))

pub returns-in-Err-clause-told : goal.returns-in-Err-clause-told
returns-in-Err-clause-told g c = λ last left bytes s x. (
    let n = g.F.Folder.numbers in
    let a = c.args in
    let fits = x.fits in
    let some = x.some in
    let within = x.within in
    let size = length-stored s left in (
      c.in-Err.ensures.told last bytes x.tells (omega (arith, fits, some, within, size)),
      PullsAtMost-more 20 (inner_read (length s)) (n a.folder.now) (n c.fill_first.new.folder) (twenty-read (length s) some) c.in-Err.ensures.pulls,
    ))
