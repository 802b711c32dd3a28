use Rattle.std.proofs.Common.{subst, take}
use Rattle.xa_outside.specs.Taken.{Takes}
use Rattle.xa_outside.proofs.BufferedLemmas.{TakesNone-passed}
use Rattle.xa_outside.proofs.buffered.Buffered.pass_on.Goals as goal

pub returns-clause-bytes : goal.returns-clause-bytes
returns-clause-bytes g c =
    let n = c.write_out-written.result.0 in
    TakesNone-passed _ _ _ _ _ n c.drop_front.ensures.bytes (subst (λ l. Takes (g.O.Sink.taken c.args.self.now.out.now) (g.O.Sink.taken c.write_out-written.new.to) (take n l)) c.waiting.ensures c.write_out-written.ensures.bytes)
