use Rattle.std.proofs.Common.{Ok}
use Rattle.record_parts.specs.ShownViews.{shown_body}
use Rattle.xa_outside.specs.declared.Failed.{Failed}
use Rattle.content_log.specs.Text.{body_text}
use Rattle.content_log.proofs.Entering.{put-done, content-put}
use Rattle.content_log.proofs.entry.put_body.Goals as goal

pub returns-in-Ok : goal.returns-in-Ok
returns-in-Ok g c =
    let b = shown_body c.args.body in
    let tag = c.args.tag.now in
    let a = g.K.Sink.taken c.args.sink.now in
    let z = g.K.Sink.taken c.write_lent_element.new.sink in
    let told = c.in-Some.ensures b c.bytes.ensures.is c.bytes.ensures.spelled in
    put-done a z (g.K.Sink.faults c.args.sink.now) (g.K.Sink.faults c.write_lent_element.new.sink) c.in-Ok.field-0 (body_text tag b)
    (content-put {E = Failed} tag b c.in-Some.content.now (Ok c.in-Ok.field-0) a z told c.in-Ok.ensures.bytes) c.in-Ok.ensures.cause

pub returns-in-None : goal.returns-in-None
returns-in-None g c = c.put_scalar.ensures c.args.tag.now
