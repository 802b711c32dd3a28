use Rattle.std.proofs.Common.{[], arith}
use Rattle.archive_text.proofs.ReadNotes.{pushed, one_blank, no_blank}
use Rattle.archive_text.proofs.notes.pad.Goals as goal

pub loop-left-preserved : goal.loop-left-preserved
loop-left-preserved c = one_blank _ _ _ _ _ (omega arith) c.loop-left.invariant (pushed _ _ _ [] c.in_ok-push.ensures.items c.new.ensures.bytes)

pub returns : goal.returns
returns c = no_blank _ _ _ (omega arith) c.loop-left.invariant
