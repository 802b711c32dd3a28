use Rattle.record_parts.specs.ShownViews.{shown_body}
use Rattle.content_log.specs.Entries.{EntryPut}
use Rattle.content_log.specs.Text.{body_text}
use Rattle.content_log.specs.declared.fault.LogFault.TheVariants.{Memory}
use Rattle.content_log.proofs.Entering.{at-err, put-none}
use Rattle.content_log.proofs.entry.put_scalar.Goals as goal

pub returns-in_err-value : goal.returns-in_err-value
returns-in_err-value g c = λ tag. (
    let a = g.K.Sink.taken c.args.sink.now in
    let n = g.K.Sink.faults c.args.sink.now in
    let text = body_text tag (shown_body c.args.body) in
    at-err c.from_residual.result Memory c.from_residual.ensures.1 (λ e. EntryPut a a n n text e) (put-none a n text))
