use Rattle.std.proofs.Common.{◌≤◌, true≢false, rules, sym}
use Rattle.archive_text.specs.Expected.{failures_of}
use Rattle.archive_text.proofs.Awaited.{failed_once, is_other_text, is_whole_text}
use Rattle.archive_text.proofs.read.is_text.Goals as goal

pub returns-in-Ok : goal.returns-in-Ok
returns-in-Ok c = is_whole_text c.new-expected.result c.put_export.new.out _ _ c.is_whole.result c.new-expected.ensures.awaits c.new-expected.ensures.nothing c.in-Ok.ensures.bytes c.is_whole.ensures

pub returns-in-Err-Sink : goal.returns-in-Err-Sink
returns-in-Err-Sink c =
    let failed : 1 ≤ failures_of c.put_export.new.out = failed_once c.in-Err-Sink.field-0 _ _ (search rules) c.new-expected.ensures.sure c.in-Err-Sink.ensures.cause.failed in
    ((λ e. absurd (true≢false (sym e))), λ e. absurd (is_other_text c.new-expected.result c.put_export.new.out _ _ c.new-expected.ensures.awaits c.new-expected.ensures.nothing failed c.in-Err-Sink.ensures.bytes e))
