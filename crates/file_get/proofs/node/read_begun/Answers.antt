use Rattle.std.proofs.Common.{◌≡◌, ℕ, ◌-◌, length, subst, arith}
use Rattle.xa_fields.specs.FieldLaws.{some_is}
use Rattle.xa_outside.specs.Numbers.{PullsAtMost}
use Rattle.file_get.specs.Searched.{inner_read}
use Rattle.file_get.proofs.Bodies.{clash, set-few}
use Rattle.file_get.proofs.StoredNodes.{front-count, length-stored, rest-pulls, told-whole}
use Rattle.file_get.proofs.node.read_begun.Goals as goal

pub returns-in-Some-eq0-clause-told : goal.returns-in-Some-eq0-clause-told
returns-in-Some-eq0-clause-told g c = λ last left bytes s x front. (
    let a = c.args in
    let fits = x.fits in
    let some = x.some in
    let size = length-stored s left in
    let none = c.in-Some-eq0 in
    let zero : none.field-0 ≡ 0 = omega arith in
    let same = some_is none.field-0 (length s) (none.ensures.told (length s) (set-few s x.set) (omega (arith, fits, size)) (front-count a.node.now bytes a.at left s front x.stands)) in
    absurd (omega (arith, zero, same, some)))

pub returns-in-Some-clause-told : goal.returns-in-Some-clause-told
returns-in-Some-clause-told g c = λ last left bytes s x front. (
    let a = c.args in
    let n = g.F.Folder.numbers in
    let fits = x.fits in
    let size = length-stored s left in
    let count = c.in-Some.count in
    let same = some_is count (length s) (c.in-Some.ensures.told (length s) (set-few s x.set) (omega (arith, fits, size)) (front-count a.node.now bytes a.at left s front x.stands)) in (
      c.read_counted.ensures.told last left bytes s (told-whole (g.F.Folder.files a.folder.now) a.ask.now.name.now bytes last a.at a.limit count s left same x) same front,
      subst (λ (k : ℕ). PullsAtMost (inner_read k - 20) (n a.folder.now) (n c.read_counted.new.folder)) same (rest-pulls count (n a.folder.now) (n c.read_counted.new.folder) c.read_counted.ensures.pulls c.read_counted.ensures.few),
    ))

pub returns-in-None-clause-told : goal.returns-in-None-clause-told
returns-in-None-clause-told g c = λ last left bytes s x front. (
    let a = c.args in
    let fits = x.fits in
    let size = length-stored s left in
    absurd (clash (c.in-None.ensures.told (length s) (set-few s x.set) (omega (arith, fits, size)) (front-count a.node.now bytes a.at left s front x.stands))))
