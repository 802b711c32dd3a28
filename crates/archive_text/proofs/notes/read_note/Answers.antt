use Rattle.std.proofs.Common.{◌≡◌, ◌-◌, ap, slice_get, arith}
use Rattle.archive_text.proofs.ReadNotes.{note_put, pushed}
use Rattle.archive_text.proofs.notes.read_note.Goals as goal

pub returns : goal.returns
returns c = λ i note few e. (
    let number = c.number_at-i.ensures i few (ap (λ ks. slice_get ks 0) e) in
    let text = c.text_at.ensures note (ap (λ ks. slice_get ks 1) e) in
    let less : c.saturating_sub.result ≡ i - 1 = omega (arith, c.saturating_sub.ensures, number) in
    note_put _ _ _ _ (i - 1) _ _ c.in_ok-pad.ensures less (pushed _ _ _ _ c.in_ok-push.ensures.items c.in_ok-note.ensures.ok) text)
