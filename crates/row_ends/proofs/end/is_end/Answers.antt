use Rattle.std.proofs.Common.{◌≡◌, ◌-◌, ◌∙◌, Bool, Option, Result, bytes_eq, take, drop, sym, ap, subst, arith}
use Rattle.version_set.specs.View.{pairs_of}
use Rattle.xa_outside.specs.NumberLaws.{PullsAtMost-more}
use Rattle.record_cursor.specs.Steps.{OnlyReads, Filled, fault_of}
use Rattle.record_cursor.specs.declared.fault.CursorFault.{CursorFault}
use Rattle.record_format.specs.Spelling.{dir_bytes}
use Rattle.row_ends.specs.Kids.{dir_in}
use Rattle.row_ends.specs.KidsView.{kids_view}
use Rattle.row_ends.specs.Rooms.{PlainRoom, matches}
use Rattle.row_ends.proofs.Same.{whole-piece}
use Rattle.row_ends.proofs.Steps.{fault-same, told-of}
use Rattle.row_ends.proofs.end.is_end.Goals as goal

pub returns-clause-reads : goal.returns-clause-reads
returns-clause-reads g c =
    let f = g.F.Folder in
    subst (λ (o : Option CursorFault). OnlyReads f.files f.draft f.faults c.args.folder.now c.expect_end.new.folder o) (fault-same c.expect_end.result ∙ sym (ap fault_of c.answer.ensures)) c.expect_end.ensures.reads

pub returns-clause-pulls : goal.returns-clause-pulls
returns-clause-pulls g c =
    let b = c.begin.new.self in
    let at = ap (λ (p : PlainRoom). p.at) c.begin.ensures in
    let low = ap (λ (p : PlainRoom). p.low) c.begin.ensures in
    PullsAtMost-more (b.at - b.low) c.args.length _ _ (omega (arith, at, low)) c.expect_end.ensures.pulls

pub returns-clause-told : goal.returns-clause-told
returns-clause-told g c = λ end bytes tells fits. (
    let b = c.begin.new.self in
    let at = ap (λ (p : PlainRoom). p.at) c.begin.ensures in
    let text = dir_bytes (dir_in (pairs_of c.args.set.now) (kids_view c.args.kids.now)) in
    let same = bytes_eq text (take c.args.length (drop c.args.at bytes)) in
    subst (λ (q : Result Bool CursorFault). Filled q (λ (x : Bool). x ≡ same)) (sym c.answer.ensures)
    (told-of c.expect_end.result (matches b bytes text) same (whole-piece b c.args.at c.args.length bytes text c.begin.ensures) (c.expect_end.ensures.answers end bytes tells (omega (arith, at, fits)))))
