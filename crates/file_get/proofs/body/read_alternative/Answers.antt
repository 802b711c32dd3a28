use Rattle.std.proofs.Common.{◌≡◌, ℕ, ◌+◌, ◌-◌, ◌*◌, ◌/◌, ◌≤◌, Ok, Err, sym, subst, ◌∙◌, arith}
use Rattle.xa_outside.specs.NumberLaws.{PullsAtMost-more, PullsAtMost-trans}
use Rattle.file_get.specs.Searched.{searched, stamp_read}
use Rattle.file_get.proofs.Bodies.{stamp-begun, stamp-stands, alt-length, alt-parts, alt-is, alt-inherits, stored-set}
use Rattle.file_get.proofs.body.read_alternative.Goals as goal

pub returns-in-Err-clause-told : goal.returns-in-Err-clause-told
returns-in-Err-clause-told g c = λ last bytes more set x tells within stands ends is has. (
    let n = g.F.Folder.numbers in
    let e = c.in-Err.ensures in
    (e.told last bytes more x tells within stands ends is, PullsAtMost-more 10 (stamp_read x.stamp) (n c.args.folder.now) (n c.read_head.new.folder) (omega (arith, stamp-begun x.stamp)) e.pulls))

pub returns-then-not-is_stored-clause-told : goal.returns-then-not-is_stored-clause-told
returns-then-not-is_stored-clause-told g c = λ last bytes more set x tells within stands ends is has. (
    let a = c.args in
    let n = g.F.Folder.numbers in
    let f = c.in-Ok.ensures in
    let h = f.told last bytes more x tells within stands ends is in (
      alt-inherits a.ask.now.version a.at c.in-Ok.head.0 set x h.0 (sym c.if-not-is_stored.true ∙ h.1) has,
      PullsAtMost-more 10 (stamp_read x.stamp) (n a.folder.now) (n c.read_head.new.folder) (omega (arith, stamp-begun x.stamp)) f.pulls,
    ))

pub returns-in-Ok-read_set-clause-told : goal.returns-in-Ok-read_set-clause-told
returns-in-Ok-read_set-clause-told g c = λ last bytes more set x tells within stands ends is has. (
    let a = c.args in
    let n = g.F.Folder.numbers in
    let f = c.in-Ok.ensures in
    let read = f.reads in
    let b = c.in-Ok-read_set in
    let h = f.told last bytes more x tells within stands ends is in
    let got = stored-set a.ask.now.version (g.F.Folder.files a.folder.now) (g.F.Folder.files c.read_head.new.folder) a.ask.now.name.now bytes last a.at c.in-Ok.head.0 set x.stamp (n a.folder.now) (n c.read_head.new.folder) (n c.read_set.new.folder) (Ok (b.has, b.body))
    read.same_files tells (omega (arith, f.within, within)) (stamp-stands bytes a.at x more stands) (omega (arith, h.0, alt-length x)) (alt-parts x is).0 (sym c.if-not-is_stored.false ∙ h.1) f.pulls b.ensures.told in
    (alt-is a.ask.now.version a.at c.in-Ok.head.0 set x (b.has, b.body) h.0 got.0, got.1))

pub returns-in-Err-read_set-clause-told : goal.returns-in-Err-read_set-clause-told
returns-in-Err-read_set-clause-told g c = λ last bytes more set x tells within stands ends is has. (
    let a = c.args in
    let n = g.F.Folder.numbers in
    let f = c.in-Ok.ensures in
    let read = f.reads in
    let b = c.in-Err-read_set in
    let h = f.told last bytes more x tells within stands ends is in
    stored-set a.ask.now.version (g.F.Folder.files a.folder.now) (g.F.Folder.files c.read_head.new.folder) a.ask.now.name.now bytes last a.at c.in-Ok.head.0 set x.stamp (n a.folder.now) (n c.read_head.new.folder) (n c.read_set.new.folder) (Err b.fault)
    read.same_files tells (omega (arith, f.within, within)) (stamp-stands bytes a.at x more stands) (omega (arith, h.0, alt-length x)) (alt-parts x is).0 (sym c.if-not-is_stored.false ∙ h.1) f.pulls b.ensures.told)

pub returns-in-Ok-read_set-clause-pulls : goal.returns-in-Ok-read_set-clause-pulls
returns-in-Ok-read_set-clause-pulls g c =
    let a = c.args in
    let n = g.F.Folder.numbers in
    let f = c.in-Ok.ensures in
    let room = c.in-Ok.head.0 - (a.at + 10) in
    PullsAtMost-more (10 + room) (a.end - a.at) (n a.folder.now) (n c.read_set.new.folder) (omega (arith, f.within)) (PullsAtMost-trans 10 room (n a.folder.now) (n c.read_head.new.folder) (n c.read_set.new.folder) f.pulls c.in-Ok-read_set.ensures.pulls)

pub returns-in-Err-read_set-clause-pulls : goal.returns-in-Err-read_set-clause-pulls
returns-in-Err-read_set-clause-pulls g c =
    let a = c.args in
    let n = g.F.Folder.numbers in
    let f = c.in-Ok.ensures in
    let room = c.in-Ok.head.0 - (a.at + 10) in
    PullsAtMost-more (10 + room) (a.end - a.at) (n a.folder.now) (n c.read_set.new.folder) (omega (arith, f.within)) (PullsAtMost-trans 10 room (n a.folder.now) (n c.read_head.new.folder) (n c.read_set.new.folder) f.pulls c.in-Err-read_set.ensures.pulls)

pub returns-then-not-is_stored-clause-most : goal.returns-then-not-is_stored-clause-most
returns-then-not-is_stored-clause-most g c =
    let a = c.args in
    let n = g.F.Folder.numbers in
    PullsAtMost-more 10 (a.at + 10 - a.at) (n a.folder.now) (n c.read_head.new.folder) (omega arith) c.in-Ok.ensures.pulls

pub returns-in-Ok-read_set-clause-most : goal.returns-in-Ok-read_set-clause-most
returns-in-Ok-read_set-clause-most g c =
    let a = c.args in
    let n = g.F.Folder.numbers in
    let body = c.in-Ok-read_set.body in
    let room = body - (a.at + 10) in
    PullsAtMost-more (10 + room) (body - a.at) (n a.folder.now) (n c.read_set.new.folder) (omega (arith, c.in-Ok-read_set.ensures.within)) (PullsAtMost-trans 10 room (n a.folder.now) (n c.read_head.new.folder) (n c.read_set.new.folder) c.in-Ok.ensures.pulls c.in-Ok-read_set.ensures.most)

pub returns-then-not-is_stored-clause-few : goal.returns-then-not-is_stored-clause-few
returns-then-not-is_stored-clause-few g c =
    let a = c.args in
    let n = g.F.Folder.numbers in
    PullsAtMost-more 10 (14 + 8 * searched ((a.at + 10 - a.at - 14) / 8)) (n a.folder.now) (n c.read_head.new.folder) (omega arith) c.in-Ok.ensures.pulls

pub returns-in-Ok-read_set-clause-few : goal.returns-in-Ok-read_set-clause-few
returns-in-Ok-read_set-clause-few g c =
    let a = c.args in
    let n = g.F.Folder.numbers in
    let body = c.in-Ok-read_set.body in
    let few = 4 + 8 * searched ((body - (a.at + 10) - 4) / 8) in
    let same : body - (a.at + 10) - 4 ≡ body - a.at - 14 = omega arith in
    PullsAtMost-more (10 + few) (14 + 8 * searched ((body - a.at - 14) / 8)) (n a.folder.now) (n c.read_set.new.folder)
    (subst (λ (k : ℕ). 10 + (4 + 8 * searched ((body - (a.at + 10) - 4) / 8)) ≤ 14 + 8 * searched (k / 8)) same (omega arith))
    (PullsAtMost-trans 10 few (n a.folder.now) (n c.read_head.new.folder) (n c.read_set.new.folder) c.in-Ok.ensures.pulls c.in-Ok-read_set.ensures.few)
