use Rattle.std.proofs.Common.{rules}
use Rattle.xa_outside.specs.BufferedLaws.{Puts-unflushed}
use Rattle.archive_text.proofs.Flushed.{all_passed, some_passed}
use Rattle.archive_text.proofs.export.write_text.Goals as goal

pub returns-in_err-put_export-clause-bytes : goal.returns-in_err-put_export-clause-bytes
returns-in_err-put_export-clause-bytes g c =
    Puts-unflushed g.K.Sink.taken c.new-buffered.result c.put_export.new.out c.args.sink.now _ c.from_residual.result _ (search rules) (search rules) (search rules) c.in_err-put_export.ensures.bytes (search rules)

pub returns-in-Ok-clause-bytes : goal.returns-in-Ok-clause-bytes
returns-in-Ok-clause-bytes g c =
    all_passed g.K.Sink.taken c.new-buffered.result c.put_export.new.out c.flush.new.self c.args.sink.now _ _ (search rules) (search rules) c.in_ok-put_export.ensures.bytes c.flush.ensures.bytes c.in-Ok.ensures.empty (search rules)

pub returns-in-Err-clause-bytes : goal.returns-in-Err-clause-bytes
returns-in-Err-clause-bytes g c =
    some_passed g.K.Sink.taken c.new-buffered.result c.put_export.new.out c.flush.new.self c.args.sink.now _ _ (search rules) (search rules) c.in_ok-put_export.ensures.bytes c.flush.ensures.bytes (search rules)
