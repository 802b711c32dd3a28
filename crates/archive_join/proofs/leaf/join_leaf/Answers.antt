use Rattle.std.proofs.Common.{true, false, None, Result, Ok, refl, subst}
use Rattle.std.specs.Result.{result_map_both}
use Rattle.version_set.specs.View.{pairs_of}
use Rattle.record_copy.specs.Faults as faults
use Rattle.record_copy.specs.declared.fault.CopyFault.{CopyFault}
use Rattle.record_copy.proofs.Passing.{at-err}
use Rattle.record_cursor.specs.View.{PlainCursor}
use Rattle.record_writer.specs.View.{writer_view}
use Rattle.record_writer.specs.declared.writer.Writer.{Writer}
use Rattle.archive_join.specs.Faults.{fault_of}
use Rattle.archive_join.specs.Leaves.{AlternativesRead, FirstPut, LeafJoined}
use Rattle.archive_join.specs.State.{State, state, with_first, with_second}
use Rattle.archive_join.specs.declared.fault.JoinFault.TheVariants.{Memory}
use Rattle.archive_join.proofs.Leafing.{AreHeld, leaf-memory, leaf-put-by, leaf-stopped-by, leaf-unread-by, side-gave}
use Rattle.archive_join.proofs.leaf.join_leaf.Given.{Over}
use Rattle.archive_join.proofs.leaf.join_leaf.Goals.{In_ok-all, In_ok-held, In_ok-of_side}
use Rattle.archive_join.proofs.leaf.join_leaf.Goals as goal

abbrev at : (g : Over) → g.row.F.Denot → PlainCursor → PlainCursor → Writer → State
at g = (let f = g.F.Folder in state f.files f.draft f.numbers f.faults)

-- the alternatives of the second were read
read : (g : Over) (c : In_ok-all g) → AlternativesRead c.args.sides.now.two.by (with_second (at g c.args.folder.now c.args.left.now c.args.right.now c.args.writer.now))
    (with_second (at g c.read_alternatives.new.folder c.args.left.now c.read_alternatives.new.cursor c.args.writer.now)) (Ok c.in_ok-all.all.items)
read g c =
    let s = at g c.args.folder.now c.args.left.now c.args.right.now c.args.writer.now in
    let t = at g c.read_alternatives.new.folder c.args.left.now c.read_alternatives.new.cursor c.args.writer.now in
    let gave = side-gave true c.read_alternatives.result c.of_side.result c.in_ok-all.all c.of_side.ensures c.in_ok-all.was in
    subst (λ r. AlternativesRead c.args.sides.now.two.by (with_second s) (with_second t) (result_map_both (λ v. v.items) (λ e. e) r)) gave (c.read_alternatives.ensures (writer_view c.args.writer.now))

-- and they are held
held : (g : Over) (c : In_ok-held g) → AreHeld c.in_ok-all.all.items c.in_ok-held.held
held g c = (let e = c.in_ok-held.ensures in record { holds = e.holds; short = e.short })

-- those of the first were written
put : (g : Over) (c : In_ok-of_side g) → FirstPut (pairs_of c.args.own.now.one) (pairs_of c.args.own.now.two) c.in_ok-held.held c.put_first.new.held (with_first (at g c.read_alternatives.new.folder c.args.left.now c.read_alternatives.new.cursor c.args.writer.now))
    (with_first (at g c.put_first.new.folder c.put_first.new.cursor c.read_alternatives.new.cursor c.put_first.new.writer)) None
put g c =
    let t = at g c.read_alternatives.new.folder c.args.left.now c.read_alternatives.new.cursor c.args.writer.now in
    let u = at g c.put_first.new.folder c.put_first.new.cursor c.read_alternatives.new.cursor c.put_first.new.writer in
    let gave = side-gave false c.put_first.result c.of_side-2.result tt c.of_side-2.ensures c.in_ok-of_side.was in
    subst (λ (r : Result (Unit {0}) CopyFault). FirstPut (pairs_of c.args.own.now.one) (pairs_of c.args.own.now.two) c.in_ok-held.held c.put_first.new.held (with_first t) (with_first u) (faults.fault_of r)) gave c.put_first.ensures

pub returns-in_err-all : goal.returns-in_err-all
returns-in_err-all g c =
    let n = c.args.sides.now.two.by in
    let p = pairs_of c.args.own.now.one in
    let q = pairs_of c.args.own.now.two in
    let e = c.in_err-all in
    let s = at g c.args.folder.now c.args.left.now c.args.right.now c.args.writer.now in
    let t = at g c.read_alternatives.new.folder c.args.left.now c.read_alternatives.new.cursor c.args.writer.now in
    at-err c.from_residual.result e.field-0.0 c.from_residual.ensures.1 (λ z. LeafJoined n p q s t (fault_of z))
    (leaf-unread-by n p q s t c.requires.left refl refl (λ v. v.items) c.read_alternatives.result c.of_side.result e.field-0.0 c.of_side.ensures e.was (c.read_alternatives.ensures (writer_view c.args.writer.now)))

pub returns-in_err-held : goal.returns-in_err-held
returns-in_err-held g c =
    let n = c.args.sides.now.two.by in
    let p = pairs_of c.args.own.now.one in
    let q = pairs_of c.args.own.now.two in
    let s = at g c.args.folder.now c.args.left.now c.args.right.now c.args.writer.now in
    let t = at g c.read_alternatives.new.folder c.args.left.now c.read_alternatives.new.cursor c.args.writer.now in
    let f = c.from_residual-in_err-held in
    at-err f.result Memory f.ensures.1 (λ z. LeafJoined n p q s t (fault_of z))
    (leaf-memory n p q s t c.requires.left refl refl c.in_ok-all.all.items (read g (goal.at.returns-in_err-held g c).In_ok-all) (g.met.F.Folder.metered c.read_alternatives.new.folder))

pub returns-in_err-of_side : goal.returns-in_err-of_side
returns-in_err-of_side g c =
    let n = c.args.sides.now.two.by in
    let p = pairs_of c.args.own.now.one in
    let q = pairs_of c.args.own.now.two in
    let e = c.in_err-of_side in
    let s = at g c.args.folder.now c.args.left.now c.args.right.now c.args.writer.now in
    let t = at g c.read_alternatives.new.folder c.args.left.now c.read_alternatives.new.cursor c.args.writer.now in
    let u = at g c.put_first.new.folder c.put_first.new.cursor c.read_alternatives.new.cursor c.put_first.new.writer in
    let f = c.from_residual-in_err-of_side in
    at-err f.result e.field-0.0 f.ensures.1 (λ z. LeafJoined n p q s u (fault_of z))
    (leaf-stopped-by n p q s t c.requires.left refl refl c.in_ok-all.all.items (read g (goal.at.returns-in_err-of_side g c).In_ok-all) c.in_ok-held.held c.put_first.new.held (held g (goal.at.returns-in_err-of_side g c).In_ok-held) u refl
    c.put_first.result c.of_side-2.result e.field-0.0 c.of_side-2.ensures e.was c.put_first.ensures)

pub put_others-requires : goal.put_others-requires
put_others-requires g c = record { leaf = (let first = put g (goal.at.put_others-requires g c).In_ok-of_side in let stays = first.stays in stays.leaf) }

pub returns : goal.returns
returns g c =
    let n = c.args.sides.now.two.by in
    let p = pairs_of c.args.own.now.one in
    let q = pairs_of c.args.own.now.two in
    let s = at g c.args.folder.now c.args.left.now c.args.right.now c.args.writer.now in
    let t = at g c.read_alternatives.new.folder c.args.left.now c.read_alternatives.new.cursor c.args.writer.now in
    let u = at g c.put_first.new.folder c.put_first.new.cursor c.read_alternatives.new.cursor c.put_first.new.writer in
    let v = at g c.put_others.new.folder c.put_first.new.cursor c.read_alternatives.new.cursor c.put_others.new.writer in
    let first = put g (goal.at.returns g c).In_ok-of_side in
    let run = first.run in
    let passes = run.passes in
    leaf-put-by n p q s t c.requires.left refl refl c.in_ok-all.all.items (read g (goal.at.returns g c).In_ok-all) c.in_ok-held.held c.put_first.new.held (held g (goal.at.returns g c).In_ok-held) u refl first
    c.put_others.result c.of_side-3.result v c.of_side-3.ensures refl (c.put_others.ensures c.put_first.new.cursor passes.within)
