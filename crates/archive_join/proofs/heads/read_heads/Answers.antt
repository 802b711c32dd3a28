use Rattle.std.proofs.Common.{Ok, Err, true, false, refl, sym, subst}
use Rattle.record_cursor.specs.View.{PlainCursor}
use Rattle.record_writer.specs.Data.{PlainWriter}
use Rattle.record_copy.proofs.Passing.{at-err}
use Rattle.archive_join.specs.Heads.{HeadsRead}
use Rattle.archive_join.specs.State.{State, beside, with_first, with_second}
use Rattle.archive_join.proofs.Heading.{side-err, side-ok, read-as, heads-first, heads-second, heads-read}
use Rattle.archive_join.proofs.heads.read_heads.Given.{Over}
use Rattle.archive_join.proofs.heads.read_heads.Goals as goal

abbrev at : (g : Over) → g.row.F.Denot → PlainCursor → PlainCursor → PlainWriter → State
at g = (let f = g.F.Folder in beside f.files f.draft f.numbers f.faults)

pub returns-in_err-one : goal.returns-in_err-one
returns-in_err-one g c w =
    let sides = c.args.sides.now in
    let s = at g c.args.folder.now c.args.left.now c.args.right.now w in
    let m = at g c.read_head.new.folder c.read_head.new.cursor c.args.right.now w in
    let e = c.in_err-one in
    let f = side-err false c.read_head.result c.of_side.result e.field-0.0 c.of_side.ensures e.was in
    at-err c.from_residual.result e.field-0.0 c.from_residual.ensures.1 (λ z. HeadsRead sides.two.by s m z)
    (subst (λ z. HeadsRead sides.two.by s m (Err z)) (sym f.2)
    (heads-first sides.two.by s m refl c.requires.right f.0 (read-as sides.one.by 0 (with_first s) (with_first m) c.read_head.result (Err f.0) sides.first f.1 (c.read_head.ensures w))))

pub returns-in_err-two : goal.returns-in_err-two
returns-in_err-two g c w =
    let sides = c.args.sides.now in
    let s = at g c.args.folder.now c.args.left.now c.args.right.now w in
    let m = at g c.read_head.new.folder c.read_head.new.cursor c.args.right.now w in
    let t = at g c.read_head-2.new.folder c.read_head.new.cursor c.read_head-2.new.cursor w in
    let o = c.in_ok-one in
    let e = c.in_err-two in
    let r = c.from_residual-in_err-two in
    let f = side-err true c.read_head-2.result c.of_side-2.result e.field-0.0 c.of_side-2.ensures e.was in
    let was = side-ok false c.read_head.result c.of_side.result o.one c.of_side.ensures o.was in
    at-err r.result e.field-0.0 r.ensures.1 (λ z. HeadsRead sides.two.by s t z)
    (subst (λ z. HeadsRead sides.two.by s t (Err z)) (sym f.2)
    (heads-second sides.two.by s m refl c.requires.right t refl o.one (read-as sides.one.by 0 (with_first s) (with_first m) c.read_head.result (Ok o.one) sides.first was (c.read_head.ensures w)) f.0
    (read-as sides.two.by sides.two.by (with_second m) (with_second t) c.read_head-2.result (Err f.0) refl f.1 (c.read_head-2.ensures w))))

pub returns : goal.returns
returns g c w =
    let sides = c.args.sides.now in
    let s = at g c.args.folder.now c.args.left.now c.args.right.now w in
    let m = at g c.read_head.new.folder c.read_head.new.cursor c.args.right.now w in
    let t = at g c.read_head-2.new.folder c.read_head.new.cursor c.read_head-2.new.cursor w in
    let o = c.in_ok-one in
    let r = c.in_ok-two in
    let was = side-ok false c.read_head.result c.of_side.result o.one c.of_side.ensures o.was in
    let is = side-ok true c.read_head-2.result c.of_side-2.result r.two c.of_side-2.ensures r.was in
    heads-read sides.two.by s m refl c.requires.right t refl o.one (read-as sides.one.by 0 (with_first s) (with_first m) c.read_head.result (Ok o.one) sides.first was (c.read_head.ensures w)) r.two
    (read-as sides.two.by sides.two.by (with_second m) (with_second t) c.read_head-2.result (Ok r.two) refl is (c.read_head-2.ensures w))
