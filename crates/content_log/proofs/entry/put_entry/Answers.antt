use Rattle.version_set.specs.View.{pairs_of}
use Rattle.record_parts.specs.ShownViews.{shown_body, shown_stamp}
use Rattle.content_log.specs.Entries.{EntryPut}
use Rattle.content_log.specs.Written.{alt_text}
use Rattle.content_log.specs.declared.fault.LogFault.TheVariants.{Memory}
use Rattle.content_log.proofs.Entering.{at-err, put-none}
use Rattle.content_log.proofs.entry.put_entry.Goals as goal

pub returns-in_err-numbers : goal.returns-in_err-numbers
returns-in_err-numbers g c =
    let a = g.K.Sink.taken c.args.sink.now in
    let n = g.K.Sink.faults c.args.sink.now in
    let text = alt_text c.args.tag.now (pairs_of c.args.set.now) (record { stamp = shown_stamp c.args.stamp; body = shown_body c.args.body }) in
    at-err c.from_residual.result Memory c.from_residual.ensures.1 (λ e. EntryPut a a n n text e) (put-none a n text)
