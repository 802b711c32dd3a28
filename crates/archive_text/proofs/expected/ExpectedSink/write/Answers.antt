use Rattle.std.proofs.Common.{◌++◌, take, option_to_list, sym, ap, ◌∙◌, arith}
use Rattle.std.proofs.Math.Seq.{take-length}
use Rattle.std.proofs.lemmas.Grind.{common_steps}
use Rattle.xa_outside.specs.TakenLaws.{StaysBehind-refl, TakesNone-refl}
use Rattle.archive_text.specs.Expected.{waits}
use Rattle.archive_text.proofs.Awaited.{cut_again, stays_as, took}
use Rattle.archive_text.proofs.expected.ExpectedSink.write.Goals as goal

pub returns-then-is_some-clause-bytes : goal.returns-then-is_some-clause-bytes
returns-then-is_some-clause-bytes c = TakesNone-refl _

pub returns-then-starts_with-clause-bytes : goal.returns-then-starts_with-clause-bytes
returns-then-starts_with-clause-bytes c =
    let front = take c.min.result c.args.piece.now in
    let came = take c.args.self.now.done c.args.self.now.bytes.now ++ option_to_list c.args.self.now.odd in
    record {
      bytes = took c.args.self.now.bytes.now front c.args.self.now.done c.args.self.now.odd c.starts_with.result (sym c.is_some.ensures ∙ c.if-is_some.false) c.args.self.now.within c.if-starts_with.true c.starts_with.ensures.value ∙ ap (λ l. came ++ l) (take-length front ∙ sym (cut_again c.min.result c.args.piece.now));
      behind = StaysBehind-refl (waits c.args.self.now.bytes.now);
    }

pub returns-clause-bytes : goal.returns-clause-bytes
returns-clause-bytes c = record { bytes = grind (arith, common_steps); behind = stays_as _ _ c.take_one.ensures.awaits }
