use Rattle.std.proofs.Common.{rules}
use Rattle.xa_outside.specs.BufferedLaws.{Puts-unflushed, Puts-flushed}
use Rattle.xarch_words.proofs.line.write_fault.Goals as goal

pub returns-in_err-put_fault-clause-bytes : goal.returns-in_err-put_fault-clause-bytes
returns-in_err-put_fault-clause-bytes g c =
    Puts-unflushed g.E.Sink.taken c.new-line.result c.put_fault.new.err c.args.err.now _ c.from_residual.result _ (search rules) (search rules) (search rules) c.in_err-put_fault.ensures.bytes (search rules)

pub returns-clause-bytes : goal.returns-clause-bytes
returns-clause-bytes g c =
    Puts-flushed g.E.Sink.taken c.new-line.result c.put_fault.new.err c.args.err.now _ c.flush.new.self c.flush.result _ (search rules) (search rules) c.in_ok-put_fault.ensures.bytes c.flush.ensures.bytes c.flush.ensures.empty (search rules)
