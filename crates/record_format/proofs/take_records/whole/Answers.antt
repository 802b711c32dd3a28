use Rattle.std.proofs.Common.{drop, sym, subst, arith}
use Rattle.std.proofs.lemmas.List.{length-drop}
use Rattle.record_format.specs.View.{rec_view}
use Rattle.record_parts.specs.Reading.{Gives}
use Rattle.record_format.proofs.WholeRecords.{no_frame, frame_behind, frame_whole}
use Rattle.record_format.proofs.take_records.whole.Goals as goal

pub returns-in_default : goal.returns-in_default
returns-in_default c = no_frame c.args.bytes.now (sym c.in_default.ensures.found)

pub returns-then-at-bytes : goal.returns-then-at-bytes
returns-then-at-bytes c = frame_behind c.args.bytes.now ((c.in-Some.kind, c.in-Some.body.now), drop c.in-Some.at c.args.bytes.now) (sym c.in-Some.ensures.found) (omega (arith, length-drop c.in-Some.at c.args.bytes.now, c.if-at-bytes.true))

pub returns : goal.returns
returns c =
    let e = frame_whole c.args.bytes.now ((c.in-Some.kind, c.in-Some.body.now), drop c.in-Some.at c.args.bytes.now) (sym c.in-Some.ensures.found) (omega (arith, length-drop c.in-Some.at c.args.bytes.now, c.if-at-bytes.false)) in
    subst (λ read. Gives rec_view c.take_body.result read) (sym e) c.take_body.ensures
