use Rattle.std.proofs.Common.{◌+◌, length, map, string_bytes, arith}
use Rattle.archive_text.specs.Export.{note_lines}
use Rattle.archive_text.proofs.Found.{hands_on, read_fails}
use Rattle.archive_text.proofs.ReadNotes.{notes_done, notes_next, notes_on, notes_start}
use Rattle.archive_text.proofs.notes.read_notes.Goals as goal

pub loop-notes-init : goal.loop-notes-init
loop-notes-init c =
    record {
      left = λ notes m rest count other h. rw c.new-notes.ensures.items (notes_start notes m rest _ h);
      within = c.requires;
    }

pub returns-in_err-line-clause-found : goal.returns-in_err-line-clause-found
returns-in_err-line-clause-found c = λ notes m rest count other h. (
    let left = c.loop-notes.invariant.left notes m rest count other h in
    read_fails (note_lines (length (map string_bytes c.loop-notes.notes.items) + 1) left.left) m rest _ _ _ c.from_residual.result c.in_err-line.field-0.0 c.from_residual.ensures.1 left.lies c.in_err-line.ensures.found)

pub returns-then-not-has_word-clause-found : goal.returns-then-not-has_word-clause-found
returns-then-not-has_word-clause-found c = λ notes m rest count other h. (
    let done = notes_done notes m rest _ _ _ _ (c.loop-notes.invariant.left notes m rest count other h) c.in_ok-line.ensures.found (c.has_word.ensures.no c.if-not-has_word.true) c.args.n count in
    rw c.in_ok-pad.ensures (done.0, done.1))

pub returns-in_err-read_note-clause-found : goal.returns-in_err-read_note-clause-found
returns-in_err-read_note-clause-found c = λ notes m rest count other h. (
    let n = notes_next notes m rest _ _ _ _ (c.loop-notes.invariant.left notes m rest count other h) other c.in_ok-line.ensures.found (c.has_word.ensures.yes c.if-not-has_word.false) in
    hands_on _ _ c.from_residual-in_err-read_note.result c.in_err-read_note.field-0.0 c.from_residual-in_err-read_note.ensures.1 (c.in_err-read_note.ensures n.i n.note (omega (arith, n.to, count)) (rw c.deref.ensures.value n.cells)))

pub loop-notes-preserved : goal.loop-notes-preserved
loop-notes-preserved c =
    record {
      left = λ notes m rest count other h. (
          let n = notes_next notes m rest _ _ _ _ (c.loop-notes.invariant.left notes m rest count other h) other c.in_ok-line.ensures.found (c.has_word.ensures.yes c.if-not-has_word.false) in
          notes_on notes m rest _ _ _ n _ (c.in_ok-read_note.ensures n.i n.note (omega (arith, n.to, count)) (rw c.deref.ensures.value n.cells)));
      within = c.in_ok-line.ensures.within;
    }
