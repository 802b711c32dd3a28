use Rattle.archive_text.proofs.Steps.{three}
use Rattle.archive_text.proofs.export.put_head.Goals as goal
use Rattle.archive_file.proofs.PutLaws.{on-ok}

pub returns : goal.returns
returns c = on-ok c.put_notes.result (λ h. three _ _ _ _ _ _ _ c.in_ok-put_count.ensures c.in_ok-put_keys.ensures h) c.put_notes.ensures
