use Rattle.std.proofs.Common.{None, Some, refl, sym, subst}
use Rattle.std.specs.Option.{option_map}
use Rattle.version_set.specs.View.{pairs_of}
use Rattle.archive_tree.specs.View.{stamp_view}
use Rattle.record_cursor.specs.View.{PlainCursor}
use Rattle.record_writer.specs.View.{writer_view}
use Rattle.record_writer.specs.declared.writer.Writer.{Writer}
use Rattle.record_copy.specs.Faults.{fault_of}
use Rattle.record_copy.specs.Parts.{head_view}
use Rattle.record_copy.specs.State.{State, state}
use Rattle.record_copy.specs.declared.fault.CopyFault.TheVariants.{Memory}
use Rattle.record_copy.proofs.Passing.{at-err}
use Rattle.archive_join.specs.Heads.{PassedAlone}
use Rattle.archive_join.proofs.Heading.{alone-memory, alone-fault, alone-unread, alone-passed}
use Rattle.archive_join.proofs.heads.pass_alone.Given.{Over}
use Rattle.archive_join.proofs.heads.pass_alone.Goals as goal

abbrev at : (g : Over) → g.row.F.Denot → PlainCursor → Writer → State
at g = (let f = g.F.Folder in state f.files f.draft f.numbers f.faults)

pub returns-in_err-stamp : goal.returns-in_err-stamp
returns-in_err-stamp g c =
    let n = c.args.raise.now.by in
    let p = pairs_of c.args.own.now in
    let q = pairs_of c.args.other.now in
    let now = option_map head_view c.args.head.now in
    let s = at g c.args.folder.now c.args.cursor.now c.args.writer.now in
    let r = c.from_residual in
    at-err r.result Memory r.ensures.1 (λ z. PassedAlone n p q now now s s (fault_of z))
    (subst (λ o. PassedAlone n p q (option_map head_view o) now s s (Some Memory)) (sym c.in-Some.is)
    (alone-memory n p q (head_view c.in-Some.node) now s (g.met.F.Folder.metered c.args.folder.now) c.requires.within))

pub returns-in_err-copy_node : goal.returns-in_err-copy_node
returns-in_err-copy_node g c =
    let n = c.args.raise.now.by in
    let p = pairs_of c.args.own.now in
    let q = pairs_of c.args.other.now in
    let now = option_map head_view c.args.head.now in
    let s = at g c.args.folder.now c.args.cursor.now c.args.writer.now in
    let t = at g c.copy_node.new.folder c.copy_node.new.cursor c.copy_node.new.writer in
    let stamp = c.in_ok-stamp in
    let set = c.effective-set in
    let e = c.in_err-copy_node in
    let r = c.from_residual-in_err-copy_node in
    at-err r.result e.field-0.0 r.ensures.1 (λ z. PassedAlone n p q now now s t (fault_of z))
    (subst (λ o. PassedAlone n p q (option_map head_view o) now s t (Some e.field-0.0)) (sym c.in-Some.is)
    (alone-fault n p q (head_view c.in-Some.node) (stamp_view stamp.stamp) (pairs_of set.result.now) stamp.ensures set.ensures.pairs s t now e.field-0.0 e.ensures))

pub returns-in_err-head : goal.returns-in_err-head
returns-in_err-head g c =
    let n = c.args.raise.now.by in
    let p = pairs_of c.args.own.now in
    let q = pairs_of c.args.other.now in
    let now = option_map head_view c.args.head.now in
    let s = at g c.args.folder.now c.args.cursor.now c.args.writer.now in
    let t = at g c.copy_node.new.folder c.copy_node.new.cursor c.copy_node.new.writer in
    let u = at g c.read_head.new.folder c.read_head.new.cursor c.copy_node.new.writer in
    let stamp = c.in_ok-stamp in
    let set = c.effective-set in
    let e = c.in_err-head in
    let r = c.from_residual-in_err-head in
    at-err r.result e.field-0.0 r.ensures.1 (λ z. PassedAlone n p q now now s u (fault_of z))
    (subst (λ o. PassedAlone n p q (option_map head_view o) now s u (Some e.field-0.0)) (sym c.in-Some.is)
    (alone-unread n p q (head_view c.in-Some.node) (stamp_view stamp.stamp) (pairs_of set.result.now) stamp.ensures set.ensures.pairs s t c.in_ok-copy_node.ensures u refl now e.field-0.0 (e.ensures (writer_view c.copy_node.new.writer))))

pub returns : goal.returns
returns g c =
    let n = c.args.raise.now.by in
    let p = pairs_of c.args.own.now in
    let q = pairs_of c.args.other.now in
    let s = at g c.args.folder.now c.args.cursor.now c.args.writer.now in
    let t = at g c.copy_node.new.folder c.copy_node.new.cursor c.copy_node.new.writer in
    let u = at g c.read_head.new.folder c.read_head.new.cursor c.copy_node.new.writer in
    let stamp = c.in_ok-stamp in
    let set = c.effective-set in
    let r = c.in_ok-head in
    subst (λ o. PassedAlone n p q (option_map head_view o) (option_map head_view r.field-0) s u None) (sym c.in-Some.is)
    (alone-passed n p q (head_view c.in-Some.node) (stamp_view stamp.stamp) (pairs_of set.result.now) stamp.ensures set.ensures.pairs s t c.in_ok-copy_node.ensures u refl r.field-0 (r.ensures (writer_view c.copy_node.new.writer)))
