use Rattle.std.proofs.Common.{rules}
use Rattle.xa_outside.specs.BufferedLaws.{Puts-unflushed, Puts-flushed}
use Rattle.xarch_parts.proofs.counts.put_counts.Goals as goal

pub returns-in_err-put_lines-clause-bytes : goal.returns-in_err-put_lines-clause-bytes
returns-in_err-put_lines-clause-bytes g c =
    Puts-unflushed g.O.Sink.taken c.new-lines.result c.put_lines.new.sink c.args.out.now _ c.from_residual.result _ (search rules) (search rules) (search rules) c.in_err-put_lines.ensures.bytes (search rules)

pub returns-clause-bytes : goal.returns-clause-bytes
returns-clause-bytes g c =
    Puts-flushed g.O.Sink.taken c.new-lines.result c.put_lines.new.sink c.args.out.now _ c.flush.new.self c.flush.result _ (search rules) (search rules) c.in_ok-put_lines.ensures.bytes c.flush.ensures.bytes c.flush.ensures.empty (search rules)
